-- Each layer of a text is one, so the text is one program, or has one fault.
use Rattle.std.proofs.Common.{◌≡◌, ◌∙◌, ℕ, ◌<◌, ◌≤◌, suc, length, List, [], ◌∷◌, Contains, Option, Some, None, Result, Ok, Err, IsErrAnd, arith, refl, ap, sym, subst, min, ◌^◌, ◌-◌}
use Rattle.px_base.specs.declared.limits.TheConstants.{PROGRAM_BYTES}
use Rattle.px_base.specs.declared.raw.RawProgram.{RawProgram}
use Rattle.px_base.specs.Fitting.{IsFitting}
use Rattle.px_terms.specs.declared.program.Program.{Program}
use Rattle.px_terms.specs.Descent.{AllDescend}
use Rattle.px_base.specs.Lawful.{IsLawful}
use Rattle.px_terms.specs.Extending.{IsWellFounded}
use Rattle.px_totality.specs.Laws.{EachCallHasValue, EachFunctionHasValue, EachTermHasValue, ExtensionsCompose}
use Rattle.px_soundness.specs.Laws.{DerivationsAreSound}
use Rattle.px_lexer.specs.declared.token.Token.{Token}
use Rattle.px_lexer.specs.declared.scan.LexEnd.{LexEnd}
use Rattle.px_lexer.specs.declared.scan.LexEnd.TheVariants as lexing
use Rattle.px_lexer.specs.Tokens.{AreTokens}
use Rattle.px_lexer.specs.Tokens as lexer_tokens
use Rattle.px_lexer.specs.Laws as lexer
use Rattle.px_parser.specs.declared.surface.Surface.{Surface}
use Rattle.px_parser.specs.Faults.{IsProgramOf, IsFaultOf}
use Rattle.px_parser.specs.declared.parse_end.ParseEnd.{ParseEnd}
use Rattle.px_parser.specs.declared.parse_end.ParseEnd.TheVariants as parsing
use Rattle.px_parser.specs.Faults as parser_faults
use Rattle.px_parser.specs.Laws as parser
use Rattle.px_scope.specs.declared.ends.ScopeKind.{ScopeKind}
use Rattle.px_scope.specs.Uses.{Use, Broken, broken_or, first_broken}
use Rattle.px_scope.specs.ItemUses.{text_uses}
use Rattle.px_scope.specs.Programs.{IsNumbering, IsFault as IsBroken}
use Rattle.px_scope.specs.declared.ends.ScopeEnd.{ScopeEnd}
use Rattle.px_scope.specs.declared.ends.ScopeEnd.TheVariants as scoping
use Rattle.px_scope.specs.Answers as scope_answers
use Rattle.px_scope.specs.Laws as scope
use Rattle.px_types.specs.declared.ends.TypeKind.{TypeKind}
use Rattle.px_types.specs.declared.ends.TypeEnd.{TypeEnd}
use Rattle.px_types.specs.declared.ends.TypeEnd.TheVariants as typing_ends
use Rattle.px_types.specs.Faults as typing_faults
use Rattle.px_types.specs.Declarations as typing
use Rattle.px_types.specs.ProgramLaws as types
use Rattle.px_descent.specs.declared.end.NoDescent.{NoDescent}
use Rattle.px_descent.specs.Ends.{NamesFirst}
use Rattle.px_descent.specs.Laws as descent
use Rattle.px_drive.specs.declared.outcome.End.{End}
use Rattle.px_drive.specs.declared.outcome.SourceFault.TheVariants.{Lex, Parse, Scope, Typing, Descent}
use Rattle.px_drive.specs.Sources.{IsNumbered, IsSource, IsParseFault, IsScopeFault, IsTypingFault, IsDescentFault, IsSourceFault, Sources}
use Rattle.px_drive.specs.Refusals.{end_of_lexing, end_of_parsing, end_of_scoping, end_of_typing, end_of_descent}
use Rattle.px_drive.specs.Laws.{OneSource, OneSourceFault, NeverBoth, SourceExtendsItself, SourceIsChecked, ScopeFaultIsFirst, AcceptedIsTrue}

-- a text that has a tree
record HasTree (text : List ℕ) (surface : Surface) : Type 0 where
  tokens : List Token
  are_tokens : AreTokens text tokens
  is_tree : IsProgramOf text tokens surface

abbrev tree_of_numbered : {text : List ℕ} {raw : RawProgram} (numbered : IsNumbered text raw) → HasTree text numbered.surface
tree_of_numbered numbered = record { tokens = numbered.tokens; are_tokens = numbered.are_tokens; is_tree = numbered.is_tree }

abbrev tree_of_fault : {text : List ℕ} {kind : ScopeKind} {at : ℕ} (fault : IsScopeFault text kind at) → HasTree text fault.surface
tree_of_fault fault = record { tokens = fault.tokens; are_tokens = fault.are_tokens; is_tree = fault.is_tree }

-- a rule of typing that is broken at a place
abbrev broken_at : TypeKind → ℕ → typing_faults.Broken
broken_at kind at = record { kind = kind; at = at }

-- What the layers' laws say of each text: each layer has one value.
pub record AreOne : Type 0 where
  pub one_list : lexer.OneList
  pub one_tree : parser.OneTree
  pub one_numbering : scope.OneNumbering
  pub trees_are_fine : parser.TreesAreFine
  pub numberings_fit : scope.NumberingsFit
  pub one_program : types.OneProgram

-- And no layer has a value and a fault.
pub record AreNeverBoth : Type 0 where
  pub lexed : lexer.NeverBoth
  pub parsed : parser.NeverBoth
  pub resolved : scope.NeverBoth
  pub typed : types.NeverTypedAndBroken
  pub descends : descent.StuckExcludesDescent

-- And no layer has two faults.
pub record HaveOneFault : Type 0 where
  pub lexed : lexer.OneFault
  pub parsed : parser.OneFault
  pub resolved : scope.OneFault
  pub typed : types.OneFirstFault
  pub descends : descent.OneFirstStuck

module _ (laws : AreOne) where
  one_surface : (text : List ℕ) (one other : Surface) → HasTree text one → HasTree text other → one ≡ other
  one_surface text one other a b =
      let tokens : a.tokens ≡ b.tokens = laws.one_list text a.tokens b.tokens a.are_tokens b.are_tokens in
      laws.one_tree text b.tokens one other (subst (λ (ts : List Token). IsProgramOf text ts one) tokens a.is_tree) b.is_tree

  one_raw : (text : List ℕ) (one other : RawProgram) → IsNumbered text one → IsNumbered text other → one ≡ other
  one_raw text one other a b =
      let surfaces : a.surface ≡ b.surface = one_surface text a.surface b.surface (tree_of_numbered a) (tree_of_numbered b) in
      laws.one_numbering b.surface one other (subst (λ (s : Surface). IsNumbering s one) surfaces a.is_numbering) b.is_numbering

  -- a numbered program is as the check of types asks for it
  fitting : (text : List ℕ) (raw : RawProgram) → IsNumbered text raw → IsFitting raw
  fitting text raw numbered =
      let fine : parser.IsFine text numbered.surface = laws.trees_are_fine text numbered.tokens numbered.surface numbered.are_tokens numbered.is_tree in
      let size : length text ≤ PROGRAM_BYTES = numbered.fits in
      laws.numberings_fit numbered.surface raw (omega (arith, fine.fits, size)) fine.nests fine.filled numbered.is_numbering

  one_typed : (text : List ℕ) (one other : RawProgram) (P Q : Program) → IsNumbered text one → IsNumbered text other → typing.IsProgramOf one P → typing.IsProgramOf other Q → P ≡ Q
  one_typed text one other P Q a b p q =
      let raws : one ≡ other = one_raw text one other a b in
      laws.one_program other P Q (fitting text other b) (subst (λ (raw : RawProgram). typing.IsProgramOf raw P) raws p) q

  pub one_source_law : OneSource
  one_source_law text P Q one other = one_typed text one.raw other.raw P Q one.is_numbered other.is_numbered one.is_typed other.is_typed

module _ (laws : AreOne) (never : AreNeverBoth) where
  -- a text with a tree has no fault of its tokens
  no_lex_fault : (text : List ℕ) (surface : Surface) (at : ℕ) → HasTree text surface → IsSourceFault text (Lex at) → ⊥
  no_lex_fault text surface at has fault = never.lexed text has.tokens at has.are_tokens fault

  -- a text with a tree has no fault of its grammar
  no_parse_fault : (text : List ℕ) (surface : Surface) (at : ℕ) → HasTree text surface → IsParseFault text at → ⊥
  no_parse_fault text surface at has fault =
      let tokens : has.tokens ≡ fault.tokens = laws.one_list text has.tokens fault.tokens has.are_tokens fault.are_tokens in
      never.parsed text fault.tokens surface at (subst (λ (ts : List Token). IsProgramOf text ts surface) tokens has.is_tree) fault.is_fault

  -- a text with a numbered program has no fault of scope
  no_scope_fault : (text : List ℕ) (raw : RawProgram) (kind : ScopeKind) (at : ℕ) → IsNumbered text raw → IsScopeFault text kind at → ⊥
  no_scope_fault text raw kind at has fault =
      let surfaces : has.surface ≡ fault.surface = one_surface laws text has.surface fault.surface (tree_of_numbered has) (tree_of_fault fault) in
      never.resolved fault.surface raw (record { kind = kind; at = at }) (subst (λ (s : Surface). IsNumbering s raw) surfaces has.is_numbering) fault.is_fault

  -- a text with a typed program has no fault of typing
  no_typing_fault : (text : List ℕ) (raw : RawProgram) (P : Program) (kind : TypeKind) (at : ℕ) → IsNumbered text raw → typing.IsProgramOf raw P → IsTypingFault text kind at → ⊥
  no_typing_fault text raw P kind at has typed fault =
      let raws : raw ≡ fault.raw = one_raw laws text raw fault.raw has fault.is_numbered in
      never.typed fault.raw P (broken_at kind at) (fitting laws text fault.raw fault.is_numbered) (subst (λ (r : RawProgram). typing.IsProgramOf r P) raws typed) fault.is_fault

  -- a text with a program in which each definition descends has no fault of descent
  no_descent_fault : (text : List ℕ) (P : Program) (def call : ℕ) → IsSource text P → IsDescentFault text def call → ⊥
  no_descent_fault text P def call source fault =
      let programs : P ≡ fault.program = one_typed laws text source.raw fault.raw P fault.program source.is_numbered fault.is_numbered source.is_typed fault.is_typed in
      never.descends fault.program def fault.names_first.call fault.names_first.first (subst AllDescend programs source.descends)

  pub never_both_law : NeverBoth
  never_both_law text P (Lex at) source fault = no_lex_fault text source.is_numbered.surface at (tree_of_numbered source.is_numbered) fault
  never_both_law text P (Parse at) source fault = no_parse_fault text source.is_numbered.surface at (tree_of_numbered source.is_numbered) fault
  never_both_law text P (Scope kind at) source fault = no_scope_fault text source.raw kind at source.is_numbered fault
  never_both_law text P (Typing kind at) source fault = no_typing_fault text source.raw P kind at source.is_numbered source.is_typed fault
  never_both_law text P (Descent def call) source fault = no_descent_fault text P def call source fault

  -- tokens that are no program have no lexical fault
  parse_not_lex : (text : List ℕ) (at other : ℕ) → IsParseFault text at → IsSourceFault text (Lex other) → ⊥
  parse_not_lex text at other parse lex = never.lexed text parse.tokens other parse.are_tokens lex

  module _ (ones : HaveOneFault) where
    same_parse : (text : List ℕ) (one other : ℕ) → IsParseFault text one → IsParseFault text other → one ≡ other
    same_parse text one other a b =
        let tokens : a.tokens ≡ b.tokens = laws.one_list text a.tokens b.tokens a.are_tokens b.are_tokens in
        ones.parsed text b.tokens one other (subst (λ (ts : List Token). IsFaultOf text ts one) tokens a.is_fault) b.is_fault

    same_scope : (text : List ℕ) (kind last : ScopeKind) (at end : ℕ) → IsScopeFault text kind at → IsScopeFault text last end → Scope kind at ≡ Scope last end
    same_scope text kind last at end a b =
        let surfaces : a.surface ≡ b.surface = one_surface laws text a.surface b.surface (tree_of_fault a) (tree_of_fault b) in
        let same : record { kind = kind; at = at } ≡ record { kind = last; at = end } = ones.resolved b.surface (record { kind = kind; at = at }) (record { kind = last; at = end }) (subst (λ (s : Surface). IsBroken s (record { kind = kind; at = at })) surfaces a.is_fault) b.is_fault in
        ap (λ (broken : Broken). Scope broken.kind broken.at) same

    same_typing : (text : List ℕ) (kind last : TypeKind) (at end : ℕ) → IsTypingFault text kind at → IsTypingFault text last end → Typing kind at ≡ Typing last end
    same_typing text kind last at end a b =
        let raws : a.raw ≡ b.raw = one_raw laws text a.raw b.raw a.is_numbered b.is_numbered in
        let same : broken_at kind at ≡ broken_at last end = ones.typed b.raw (broken_at kind at) (broken_at last end) (fitting laws text b.raw b.is_numbered) (subst (λ (raw : RawProgram). typing.IsFault raw (broken_at kind at)) raws a.is_fault) b.is_fault in
        ap (λ (broken : typing_faults.Broken). Typing broken.kind broken.at) same

    same_descent : (text : List ℕ) (def last call end : ℕ) → IsDescentFault text def call → IsDescentFault text last end → Descent def call ≡ Descent last end
    same_descent text def last call end a b =
        let programs : a.program ≡ b.program = one_typed laws text a.raw b.raw a.program b.program a.is_numbered b.is_numbered a.is_typed b.is_typed in
        let first : NamesFirst b.program (record { def = def; call = call }) = subst (λ (P : Program). NamesFirst P (record { def = def; call = call })) programs a.names_first in
        let capped = λ (n : ℕ). min n (2 ^ 32 - 1) in
        let same : (def ≡ last) × (first.call ≡ b.names_first.call) = ones.descends b.program def first.call last b.names_first.call first.first b.names_first.first in
        let one : call ≡ end = first.number ∙ (ap capped same.1 ∙ sym b.names_first.number) in
        let defs : def ≡ last = same.0 in
        cc

    pub one_source_fault_law : OneSourceFault
    one_source_fault_law text (Lex one) (Lex other) a b = ap Lex (ones.lexed text one other a b)
    one_source_fault_law text (Parse one) (Parse other) a b = ap Parse (same_parse text one other a b)
    one_source_fault_law text (Scope kind at) (Scope last end) a b = same_scope text kind last at end a b
    one_source_fault_law text (Typing kind at) (Typing last end) a b = same_typing text kind last at end a b
    one_source_fault_law text (Descent def call) (Descent last end) a b = same_descent text def last call end a b
    one_source_fault_law text (Lex at) (Parse place) a b = absurd (parse_not_lex text place at b a)
    one_source_fault_law text (Parse at) (Lex place) a b = absurd (parse_not_lex text at place a b)
    one_source_fault_law text (Lex at) (Scope kind place) a b = absurd (no_lex_fault text b.surface at (tree_of_fault b) a)
    one_source_fault_law text (Scope kind at) (Lex place) a b = absurd (no_lex_fault text a.surface place (tree_of_fault a) b)
    one_source_fault_law text (Lex at) (Typing rule place) a b = absurd (no_lex_fault text b.is_numbered.surface at (tree_of_numbered b.is_numbered) a)
    one_source_fault_law text (Typing rule at) (Lex place) a b = absurd (no_lex_fault text a.is_numbered.surface place (tree_of_numbered a.is_numbered) b)
    one_source_fault_law text (Lex at) (Descent def call) a b = absurd (no_lex_fault text b.is_numbered.surface at (tree_of_numbered b.is_numbered) a)
    one_source_fault_law text (Descent def call) (Lex place) a b = absurd (no_lex_fault text a.is_numbered.surface place (tree_of_numbered a.is_numbered) b)
    one_source_fault_law text (Parse at) (Scope kind place) a b = absurd (no_parse_fault text b.surface at (tree_of_fault b) a)
    one_source_fault_law text (Scope kind at) (Parse place) a b = absurd (no_parse_fault text a.surface place (tree_of_fault a) b)
    one_source_fault_law text (Parse at) (Typing rule place) a b = absurd (no_parse_fault text b.is_numbered.surface at (tree_of_numbered b.is_numbered) a)
    one_source_fault_law text (Typing rule at) (Parse place) a b = absurd (no_parse_fault text a.is_numbered.surface place (tree_of_numbered a.is_numbered) b)
    one_source_fault_law text (Parse at) (Descent def call) a b = absurd (no_parse_fault text b.is_numbered.surface at (tree_of_numbered b.is_numbered) a)
    one_source_fault_law text (Descent def call) (Parse place) a b = absurd (no_parse_fault text a.is_numbered.surface place (tree_of_numbered a.is_numbered) b)
    one_source_fault_law text (Scope kind at) (Typing rule place) a b = absurd (no_scope_fault text b.raw kind at b.is_numbered a)
    one_source_fault_law text (Typing rule at) (Scope kind place) a b = absurd (no_scope_fault text a.raw kind place a.is_numbered b)
    one_source_fault_law text (Scope kind at) (Descent def call) a b = absurd (no_scope_fault text b.raw kind at b.is_numbered a)
    one_source_fault_law text (Descent def call) (Scope kind place) a b = absurd (no_scope_fault text a.raw kind place a.is_numbered b)
    one_source_fault_law text (Typing rule at) (Descent def call) a b = absurd (no_typing_fault text b.raw b.program rule at b.is_numbered b.is_typed a)
    one_source_fault_law text (Descent def call) (Typing rule place) a b = absurd (no_typing_fault text a.raw a.program rule place a.is_numbered a.is_typed b)

-- the numbered program of a text is as the check of types asks for it
pub fits_of : parser.TreesAreFine → scope.NumberingsFit → (text : List ℕ) (raw : RawProgram) → IsNumbered text raw → IsFitting raw
fits_of trees_are_fine numberings_fit text raw numbered =
    let fine : parser.IsFine text numbered.surface = trees_are_fine text numbered.tokens numbered.surface numbered.are_tokens numbered.is_tree in
    let size : length text ≤ PROGRAM_BYTES = numbered.fits in
    numberings_fit numbered.surface raw (omega (arith, fine.fits, size)) fine.nests fine.filled numbered.is_numbering

-- the program of a text is typed and descends, so it extends itself, and it is checked
module _ (trees_are_fine : parser.TreesAreFine) (numberings_fit : scope.NumberingsFit) (typed : types.ProgramsAreTyped) where
  founded : (text : List ℕ) (P : Program) → IsSource text P → IsWellFounded P
  founded text P source = record { typed = typed source.raw P (fits_of trees_are_fine numberings_fit text source.raw source.is_numbered) source.is_typed; descends = source.descends }

  pub source_extends_itself_law : ExtensionsCompose → SourceExtendsItself
  source_extends_itself_law extensions text P source = extensions.itself P (founded text P source)

  -- the names of the program of a text have the form of their kind, and no two of a kind are equal
  lawful_names : scope.NamesAreLawful → (text : List ℕ) (P : Program) → IsSource text P → IsLawful P.names
  lawful_names lawful text P source =
      let numbered : IsNumbered text source.raw = source.is_numbered in
      let fine : parser.IsFine text numbered.surface = trees_are_fine text numbered.tokens numbered.surface numbered.are_tokens numbered.is_tree in
      let names : P.names ≡ source.raw.names = ap (λ (program : Program). program.names) source.is_typed.named in
      subst IsLawful (sym names) (lawful numbered.surface source.raw fine.named numbered.is_numbering)

  pub source_is_checked_law : scope.NamesAreLawful → types.ProgramsHaveNumbers → EachCallHasValue → EachFunctionHasValue → EachTermHasValue → SourceIsChecked
  source_is_checked_law lawful numbers calls functions terms text P source = record {
    typed = (founded text P source).typed;
    descends = source.descends;
    lawful = lawful_names lawful text P source;
    numbered = numbers source.raw P (fits_of trees_are_fine numberings_fit text source.raw source.is_numbered) source.is_typed;
    values = record {
      in_each = λ Q extends. record { calls = calls Q extends.founded; functions = functions Q extends.founded; terms = terms Q extends.founded };
    };
  }

-- what is derived of the program of a text holds in its extensions, and it is one of them
pub accepted_is_true_law : SourceExtendsItself → DerivationsAreSound → AcceptedIsTrue
accepted_is_true_law extends sound text derivation P source derived =
    let itself = extends text P source in
    (sound P itself.founded derived.derivation.trees derived.derivation.derivation, itself)

-- what stands later among the names stands among them
one_later : (u : Use) (us : List Use) (other : Use) → Contains us other → Contains (u ∷ us) other
one_later u us other (k, within, is) = (suc k, omega arith, is)

in_front : (u : Use) (us : List Use) → 0 < length (u ∷ us)
in_front u us = omega arith

-- the first name that breaks a rule stands in front, or among the later names
front_or_later : (u : Use) (us : List Use) (kind : ScopeKind) (at : ℕ) (fault : Option ScopeKind) → u.fault ≡ fault → broken_or u.at fault (first_broken us) ≡ Some (record { kind = kind; at = at })
    → (first_broken us ≡ Some (record { kind = kind; at = at }) → Contains us (record { at = at; fault = Some kind })) → Contains (u ∷ us) (record { at = at; fault = Some kind })
front_or_later u us kind at None is first there = one_later u us (record { at = at; fault = Some kind }) (there first)
front_or_later u us kind at (Some broken) is first there =
    let here : record { kind = broken; at = u.at } ≡ record { kind = kind; at = at } = some_is (record { kind = broken; at = u.at }) (record { kind = kind; at = at }) first in
    (0, in_front u us, λ i. record { at = (here i).at; fault = (is ∙ ap (λ (b : Broken). Some b.kind) here) i })
  where
    some_is : (one other : Broken) → Some one ≡ Some other → one ≡ other
    some_is one other is = cc

first_is_there : (uses : List Use) (kind : ScopeKind) (at : ℕ) → first_broken uses ≡ Some (record { kind = kind; at = at }) → Contains uses (record { at = at; fault = Some kind })
first_is_there [] kind at first = cc
first_is_there (u ∷ us) kind at first = front_or_later u us kind at u.fault refl first (first_is_there us kind at)

pub scope_fault_is_first_law : scope.NamesRise → scope.FaultIsFirst → scope.EachNameIsListed → ScopeFaultIsFirst
scope_fault_is_first_law names_rise fault_is_first each_name_is_listed text kind at fault = record {
  tokens = fault.tokens;
  surface = fault.surface;
  are_tokens = fault.are_tokens;
  is_tree = fault.is_tree;
  rise = names_rise text fault.tokens fault.surface fault.are_tokens fault.is_tree;
  breaks = first_is_there (text_uses fault.surface.items) kind at fault.is_fault.first;
  first = fault_is_first text fault.tokens fault.surface (record { kind = kind; at = at }) fault.are_tokens fault.is_tree fault.is_fault;
  each = λ t there named up_to. each_name_is_listed text fault.tokens fault.surface fault.are_tokens fault.is_tree t there named (subst (scope.IsUpTo t.start) (sym fault.is_fault.first) up_to);
}

-- a text that has no tokens is no program
pub no_tokens : (text : List ℕ) (result : Result Program End) (refusal : LexEnd) → IsErrAnd result (λ end. end ≡ end_of_lexing refusal) → lexer_tokens.IsEnd text refusal → Sources text result
no_tokens text (Ok program) refusal is fault = absurd is
no_tokens text (Err end) (lexing.Fault at) is fault = subst (λ (e : End). Sources text (Err e)) (sym is) fault
no_tokens text (Err end) lexing.NoMemory is fault = subst (λ (e : End). Sources text (Err e)) (sym is) tt

-- a text whose tokens have no tree is no program
pub no_tree : (text : List ℕ) (tokens : List Token) (result : Result Program End) (refusal : ParseEnd) → AreTokens text tokens
    → IsErrAnd result (λ end. end ≡ end_of_parsing refusal) → parser_faults.IsEnd text tokens refusal → Sources text result
no_tree text tokens (Ok program) refusal are is fault = absurd is
no_tree text tokens (Err end) (parsing.Fault at) are is fault =
    subst (λ (e : End). Sources text (Err e)) (sym is) (record { tokens = tokens; are_tokens = are; is_fault = fault })
no_tree text tokens (Err end) parsing.NoMemory are is fault = subst (λ (e : End). Sources text (Err e)) (sym is) tt

-- a text whose tree has no numbers for its names is no program
pub no_numbers : (text : List ℕ) (tokens : List Token) (surface : Surface) (result : Result Program End) (refusal : ScopeEnd) → AreTokens text tokens → IsProgramOf text tokens surface
    → IsErrAnd result (λ end. end ≡ end_of_scoping refusal) → scope_answers.IsEnd surface refusal → Sources text result
no_numbers text tokens surface (Ok program) refusal are tree is fault = absurd is
no_numbers text tokens surface (Err end) (scoping.Fault kind at) are tree is fault =
    subst (λ (e : End). Sources text (Err e)) (sym is) (record { tokens = tokens; surface = surface; are_tokens = are; is_tree = tree; is_fault = fault })
no_numbers text tokens surface (Err end) scoping.NoMemory are tree is fault = subst (λ (e : End). Sources text (Err e)) (sym is) tt

-- a text whose numbered program is not typed is no program
pub no_types : (text : List ℕ) (raw : RawProgram) (result : Result Program End) (refusal : TypeEnd) → IsNumbered text raw
    → IsErrAnd result (λ end. end ≡ end_of_typing refusal) → ((kind : TypeKind) (at : ℕ) → refusal ≡ typing_ends.Fault kind at → typing.IsFault raw (broken_at kind at)) → Sources text result
no_types text raw (Ok program) refusal numbered is fault = absurd is
no_types text raw (Err end) (typing_ends.Fault kind at) numbered is fault =
    let broken : IsTypingFault text kind at = record { raw = raw; is_numbered = numbered; is_fault = fault kind at refl } in
    subst (λ (e : End). Sources text (Err e)) (sym is) broken
no_types text raw (Err end) typing_ends.NoMemory numbered is fault = subst (λ (e : End). Sources text (Err e)) (sym is) tt

-- a text whose typed program has a definition that does not descend is no program
pub no_descent : (text : List ℕ) (raw : RawProgram) (P : Program) (result : Result Program End) (refusal : NoDescent) → IsNumbered text raw → typing.IsProgramOf raw P
    → IsErrAnd result (λ end. end ≡ end_of_descent refusal) → NamesFirst P refusal → Sources text result
no_descent text raw P (Ok program) refusal numbered typed is first = absurd is
no_descent text raw P (Err end) refusal numbered typed is first =
    let fault : IsDescentFault text refusal.def refusal.call = record { raw = raw; program = P; is_numbered = numbered; is_typed = typed; names_first = first } in
    subst (λ (e : End). Sources text (Err e)) (sym is) fault
