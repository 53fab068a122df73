-- The datatypes of the tree of some tokens have constructors, and its lemmas equations.
use Rattle.std.proofs.Common.{◌<◌, length}
use Rattle.px_lexer.specs.declared.token.Mark.TheVariants.{BraceL, BraceR, Comma, FatArrow}
use Rattle.px_parser.specs.Grammar.{con, data_declaration, equation, lemma, item, program}
use Rattle.px_parser.specs.declared.surface.SData.{SData}
use Rattle.px_parser.specs.declared.surface.SLemma.{SLemma}
use Rattle.px_parser.specs.Filled.{IsFilledItem, IsFilled}
use Rattle.px_parser.proofs.Yields.{Yields, yields_done, yields_bind, yields_skip, yields_either, yields_each, yields_some, yields_between}

filled_data : Yields (λ (declaration : SData). 0 < length declaration.cons) data_declaration
unfolding data_declaration
filled_data =
    yields_skip (λ at. yields_skip (λ name. yields_skip (λ tparams.
    yields_bind (yields_between BraceL BraceR (yields_some Comma con)) (λ cons some. yields_done some))))

filled_lemma : Yields (λ (declaration : SLemma). 0 < length declaration.equations) lemma
unfolding lemma
filled_lemma =
    yields_skip (λ at. yields_skip (λ name. yields_skip (λ tparams. yields_skip (λ params. yields_skip (λ colon.
    yields_bind (yields_some FatArrow equation) (λ equations some. yields_done some))))))

filled_item : Yields IsFilledItem item
unfolding item
filled_item =
    yields_either (yields_bind filled_data (λ declaration some. yields_done some))
    (yields_either (yields_skip (λ declaration. yields_done tt))
    (yields_either (yields_skip (λ declaration. yields_done tt))
    (yields_either (yields_bind filled_lemma (λ declaration some. yields_done some))
    (yields_skip (λ declaration. yields_done tt)))))

pub filled_program : Yields IsFilled program
unfolding program
filled_program = yields_bind (yields_each filled_item) (λ items filled. yields_done filled)
