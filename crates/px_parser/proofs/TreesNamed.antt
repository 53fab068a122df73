-- The words of a text's tokens have the form of their kind, and the names that their tree declares have it too.
use Rattle.std.proofs.Common.{ℕ, List, length, All}
use Rattle.std.proofs.lemmas.List.Elements.{All-nil, All-cons}
use Rattle.px_lexer.specs.Forms.{HasForm}
use Rattle.px_lexer.specs.Tokens.{AreTokens, Reads, none, blank, comment, token}
use Rattle.px_lexer.specs.declared.token.Mark.TheVariants.{BraceL, BraceR, Comma}
use Rattle.px_lexer.specs.declared.token.Token.{Token}
use Rattle.px_lexer.specs.declared.token.TokenKind.TheVariants as kinds
use Rattle.px_parser.specs.Words.{word_of, words_of}
use Rattle.px_parser.specs.Grammar.{con, data_declaration, definition, lemma, replica, item, program}
use Rattle.px_parser.specs.Named.{IsNamedCon, IsNamedData, IsNamedItem, AreNamed}
use Rattle.px_parser.specs.declared.surface.SDef.{SDef}
use Rattle.px_parser.specs.declared.surface.SLemma.{SLemma}
use Rattle.px_parser.specs.declared.surface.SReplica.{SReplica}
use Rattle.px_parser.proofs.YieldsFormed.{IsFormed, YieldsFormed, formed_done, formed_bind, formed_skip, formed_either, formed_each, formed_list, formed_between, formed_lower, formed_upper}

read_words_formed : (text : List ℕ) (to at : ℕ) (ts : List Token) → Reads text to at ts → All IsFormed (words_of text ts)
read_words_formed text to at ts (none e) = All-nil IsFormed
read_words_formed text to at ts (blank {at = a} {ts = us} is rest) = read_words_formed text to _ us rest
read_words_formed text to at ts (comment {at = a} {ts = us} end is rest) = read_words_formed text to _ us rest
read_words_formed text to at ts (token {at = a} {t} {ts = us} starts is rest) =
    All-cons IsFormed (word_of text t) (words_of text us) is.slice.form (read_words_formed text to _ us rest)

pub words_formed : (text : List ℕ) (tokens : List Token) → AreTokens text tokens → All IsFormed (words_of text tokens)
words_formed text tokens are = read_words_formed text (length text) 0 tokens are

named_con : YieldsFormed IsNamedCon con
unfolding con
named_con = formed_bind formed_upper (λ name form. formed_skip (λ fields. formed_done form))

named_data : YieldsFormed IsNamedData data_declaration
unfolding data_declaration
named_data =
    formed_skip (λ at. formed_bind formed_upper (λ name form. formed_skip (λ tparams.
    formed_bind (formed_between BraceL BraceR (formed_list Comma named_con)) (λ cons forms. formed_done (record { name = form; cons = forms })))))

named_definition : YieldsFormed (λ (declaration : SDef). HasForm declaration.name.text kinds.Lower) definition
unfolding definition
named_definition =
    formed_skip (λ at. formed_bind formed_lower (λ name form. formed_skip (λ tparams. formed_skip (λ params. formed_skip (λ colon.
    formed_skip (λ result. formed_skip (λ props. formed_skip (λ body. formed_done form))))))))

named_lemma : YieldsFormed (λ (declaration : SLemma). HasForm declaration.name.text kinds.Lower) lemma
unfolding lemma
named_lemma =
    formed_skip (λ at. formed_bind formed_lower (λ name form. formed_skip (λ tparams. formed_skip (λ params. formed_skip (λ colon.
    formed_skip (λ equations. formed_done form))))))

named_replica : YieldsFormed (λ (declaration : SReplica). HasForm declaration.name.text kinds.Lower) replica
unfolding replica
named_replica =
    formed_skip (λ at. formed_bind formed_lower (λ name form. formed_skip (λ colon. formed_skip (λ state. formed_skip (λ k. formed_skip (λ from.
    formed_skip (λ k. formed_skip (λ merge. formed_skip (λ funs. formed_done form)))))))))

named_item : YieldsFormed IsNamedItem item
unfolding item
named_item =
    formed_either (formed_bind named_data (λ declaration named. formed_done named))
    (formed_either (formed_bind named_definition (λ declaration form. formed_done form))
    (formed_either (formed_skip (λ declaration. formed_done tt))
    (formed_either (formed_bind named_lemma (λ declaration form. formed_done form))
    (formed_bind named_replica (λ declaration form. formed_done form)))))

pub named_program : YieldsFormed AreNamed program
unfolding program
named_program = formed_bind (formed_each named_item) (λ items named. formed_done named)
