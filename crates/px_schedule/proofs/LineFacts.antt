-- Lines that keep the rules, and the first that breaks one.
use Rattle.std.proofs.Common.{◌≡◌, ℕ, ◌+◌, List, [], ◌∷◌, ◌++◌, length, get_or, Option, Some, None, refl, sym, ap, ◌∙◌, subst, arith, codes}
use Rattle.std.specs.Prelude.{Contains, slice_get}
use Rattle.std.specs.List.{AllByRecursion}
use Rattle.std.specs.Fmt.{decimal}
use Rattle.std.proofs.lemmas.List.{append_assoc, append-nil}
use Rattle.px_base.specs.Distinct.{AreDistinct, more as distinct_more}
use Rattle.px_base.specs.Lawful.{IsLawful}
use Rattle.px_terms.specs.declared.term.Value.{Value}
use Rattle.px_terms.specs.declared.program.ReplicaDef.{ReplicaDef}
use Rattle.px_terms.specs.declared.program.Program.{Program}
use Rattle.px_schedule.specs.declared.schedule.Event.{Event}
use Rattle.px_schedule.specs.declared.schedule.Event.TheVariants as event
use Rattle.px_schedule.specs.declared.schedule.Schedule.{Schedule}
use Rattle.px_schedule.specs.declared.schedule_end.ScheduleKind.{ScheduleKind}
use Rattle.px_schedule.specs.ValueGrammar.{IsText}
use Rattle.px_schedule.specs.ValueLaws.{OneValue}
use Rattle.px_schedule.specs.ScheduleLaws.{OneSchedule, OneFault, NeverBoth}
use Rattle.px_schedule.specs.Schedules.{Command, replicas, update, send, deliver, show, HasForm, IsLineOf, State, IsDeclaration, IsStateText, Rule, rules, Holds, FirstBroken, here, later, after, IsEventOf, Takes, begins, goes_on, IsKept, AreKept, none, more, ended, IsSchedule, IsWrong, formless, broken, Breaks, ends, unfinished, wrong, IsFault}
use Rattle.px_schedule.specs.Fields.{keyword, fields_of}
use Rattle.px_schedule.proofs.RunFacts.{Same}
use Rattle.px_schedule.proofs.NameFacts.{one_place}
use Rattle.px_schedule.proofs.FieldFacts.{lacks, same_cut, no_cut, number_lacks, same_number}
use Rattle.px_schedule.proofs.CommandFacts.{line_is, keyword_lacks, name_lacks}

-- a line is at most one command's
command_by : (c e : Command) → HasForm c → HasForm e → keyword c ≡ keyword e → fields_of c ≡ fields_of e → c ≡ e
command_by (replicas name count) (replicas other number) f g k h =
    let s : Same name other (decimal count) (decimal number) = same_cut 32 name other (decimal count) (decimal number) (name_lacks name f.0) (name_lacks other g.0) h in
    let names : name ≡ other = s.front in
    let counts : count ≡ number = same_number count number f.1 g.1 s.back in
    cc
command_by (update r v) (update s w) f g k h =
    let x : Same (decimal r) (decimal s) v w = same_cut 32 (decimal r) (decimal s) v w (number_lacks r f) (number_lacks s g) h in
    let numbers : r ≡ s = same_number r s f g x.front in
    let values : v ≡ w = x.back in
    cc
command_by (send r) (send s) f g k h = ap send (same_number r s f g h)
command_by (deliver m r) (deliver n s) f g k h =
    let x : Same (decimal m) (decimal n) (decimal r) (decimal s) = same_cut 32 (decimal m) (decimal n) (decimal r) (decimal s) (number_lacks m f.0) (number_lacks n g.0) h in
    let messages : m ≡ n = same_number m n f.0 g.0 x.front in
    let numbers : r ≡ s = same_number r s f.1 g.1 x.back in
    cc
command_by (show r) (show s) f g k h = ap show (same_number r s f g h)
command_by (send r) (show s) f g k h = let q : get_or (codes "send") 1 0 ≡ get_or (codes "show") 1 0 = ap (λ (w : List ℕ). get_or w 1 0) k in absurd (omega arith)
command_by (show r) (send s) f g k h = let q : get_or (codes "show") 1 0 ≡ get_or (codes "send") 1 0 = ap (λ (w : List ℕ). get_or w 1 0) k in absurd (omega arith)
command_by c e f g k h = let q : length (keyword c) ≡ length (keyword e) = ap length k in absurd (omega arith)

same_command : (d : Option ℕ) (line : List ℕ) (c e : Command) → IsLineOf d line c → IsLineOf d line e → c ≡ e
same_command d line c e is also =
    let s : Same (keyword c) (keyword e) (fields_of c) (fields_of e) = same_cut 32 (keyword c) (keyword e) (fields_of c) (fields_of e) (keyword_lacks c) (keyword_lacks e) (sym (line_is c) ∙ sym is.spelled ∙ also.spelled ∙ line_is e) in
    command_by c e is.form also.form s.front s.back

-- what a text goes on with is cut at the first line feed in one way
same_line : (one other x y : List ℕ) → (Contains one 10 → ⊥) → (Contains other 10 → ⊥) → one ++ 10 ∷ x ≡ other ++ 10 ∷ y → Same one other x y
same_line one other x y free also e = same_cut 10 one other x y (lacks 10 one free) (lacks 10 other also) e

nothing_begins : (line rest : List ℕ) → [] ≡ line ++ 10 ∷ rest → ⊥
nothing_begins [] rest e = cc
nothing_begins (c ∷ line) rest e = cc

distinct_tail : (x : List ℕ) (xs : List (List ℕ)) → AreDistinct (x ∷ xs) → AreDistinct xs
distinct_tail x xs (distinct_more absent distinct) = distinct

distinct_back : (xs ys : List (List ℕ)) → AreDistinct (xs ++ ys) → AreDistinct ys
distinct_back [] ys distinct = distinct
distinct_back (x ∷ xs) ys distinct = distinct_back xs ys (distinct_tail x (xs ++ ys) distinct)

-- no two replica declarations have one name
pub replicas_distinct : (P : Program) → IsLawful P.names → AreDistinct P.names.replicas
replicas_distinct P lawful =
    distinct_back P.names.lemmas P.names.replicas (distinct_back P.names.defs (P.names.lemmas ++ P.names.replicas) (distinct_tail _ (P.names.defs ++ (P.names.lemmas ++ P.names.replicas)) (distinct_tail _ _ lawful.lowers)))

-- the first broken rule has one kind
first_one : (P : Program) (S : State) (kind why : ScheduleKind) {rs : List Rule} → FirstBroken P S kind rs → FirstBroken P S why rs → kind ≡ why
first_one P S kind why (here not is) (here bars also) = is ∙ sym also
first_one P S kind why (here not is) (later holds rest) = absurd (not holds)
first_one P S kind why (later holds rest) (here bars also) = absurd (bars holds)
first_one P S kind why (later holds rest) (later h also) = first_one P S kind why rest also

-- where all rules hold none is broken
all_hold : (P : Program) (S : State) (kind : ScheduleKind) {rs : List Rule} → FirstBroken P S kind rs → AllByRecursion (Holds P S) rs → ⊥
all_hold P S kind (here not is) all = not all.0
all_hold P S kind (later holds rest) all = all_hold P S kind rest all.1

wrong_one : (P : Program) (S : State) (line : List ℕ) (kind why : ScheduleKind) → IsWrong P S line kind → IsWrong P S line why → kind ≡ why
wrong_one P S line kind why (formless not is) (formless bars also) = is ∙ sym also
wrong_one P S line kind why (formless not is) (broken c is_line first) = absurd (not c is_line)
wrong_one P S line kind why (broken c is_line first) (formless bars also) = absurd (bars c is_line)
wrong_one P S line kind why (broken c is_line first) (broken e also second) =
    let same : e ≡ c = same_command S.declaration line e c also is_line in
    first_one P S kind why first (subst (λ (x : Command). FirstBroken P S why (rules x)) same second)

breaks_one : (P : Program) (S : State) (text : List ℕ) (kind why : ScheduleKind) → Breaks P S text kind → Breaks P S text why → kind ≡ why
breaks_one P S text kind why (ends empty due is) (ends _ _ also) = is ∙ sym also
breaks_one P S text kind why (ends empty due is) (unfinished _ _ also) = is ∙ sym also
breaks_one P S text kind why (ends empty due is) (wrong line begins_so w) = absurd (nothing_begins line begins_so.rest (sym empty ∙ begins_so.whole))
breaks_one P S text kind why (unfinished some free is) (ends _ _ also) = is ∙ sym also
breaks_one P S text kind why (unfinished some free is) (unfinished _ _ also) = is ∙ sym also
breaks_one P S text kind why (unfinished some free is) (wrong line begins_so w) = absurd (no_cut 10 text line begins_so.rest free begins_so.whole)
breaks_one P S text kind why (wrong line begins_so w) (ends empty due also) = absurd (nothing_begins line begins_so.rest (sym empty ∙ begins_so.whole))
breaks_one P S text kind why (wrong line begins_so w) (unfinished some free also) = absurd (no_cut 10 text line begins_so.rest free begins_so.whole)
breaks_one P S text kind why (wrong line begins_so w) (wrong other begins_also x) =
    let s : Same other line begins_also.rest begins_so.rest = same_line other line begins_also.rest begins_so.rest begins_also.one_line begins_so.one_line (sym begins_also.whole ∙ begins_so.whole) in
    wrong_one P S line kind why w (subst (λ (l : List ℕ). IsWrong P S l why) s.front x)

-- no line that keeps the rules stands in front
abbrev Halts : Program → State → List ℕ → Type 0
Halts P S text = (line rest : List ℕ) (T : State) (events : List Event) → text ≡ line ++ 10 ∷ rest → IsKept P S line T events → ⊥

not_wrong : (P : Program) (S : State) (line : List ℕ) (kind : ScheduleKind) (T : State) (events : List Event) → IsKept P S line T events → IsWrong P S line kind → ⊥
not_wrong P S line kind T events kept (formless not is) = not kept.command kept.is_line
not_wrong P S line kind T events kept (broken c is_line first) =
    let same : c ≡ kept.command = same_command S.declaration line c kept.command is_line kept.is_line in
    all_hold P S kind (subst (λ (x : Command). FirstBroken P S kind (rules x)) same first) kept.holds

breaks_halts : (P : Program) (S : State) (text : List ℕ) (kind : ScheduleKind) → Breaks P S text kind → Halts P S text
breaks_halts P S text kind (ends empty due is) = λ line rest T events e kept. nothing_begins line rest (sym empty ∙ e)
breaks_halts P S text kind (unfinished some free is) = λ line rest T events e kept. no_cut 10 text line rest free e
breaks_halts P S text kind (wrong own begins_so w) = λ line rest T events e kept.
    let s : Same own line begins_so.rest rest = same_line own line begins_so.rest rest begins_so.one_line kept.one_line (sym begins_so.whole ∙ e) in
    not_wrong P S line kind T events kept (subst (λ (l : List ℕ). IsWrong P S l kind) s.front w)

nothing_halts : (P : Program) (S : State) → Halts P S []
nothing_halts P S = λ line rest T events e kept. nothing_begins line rest e

-- a line and its line feed stand in front of the others
pub ended_more : (line : List ℕ) (lines : List (List ℕ)) (rest : List ℕ) → ended (line ∷ lines) ++ rest ≡ line ++ 10 ∷ (ended lines ++ rest)
ended_more line lines rest = append_assoc (line ++ 10 ∷ []) (ended lines) rest ∙ append_assoc line (10 ∷ []) (ended lines ++ rest)

-- What is left behind a line is one thing.
record SameTaken (T U : State) (events others : List Event) : Type 0 where
  state : T ≡ U
  events_are : events ≡ others

module _ (P : Program) (one_value : OneValue) (lawful : IsLawful P.names) where
  same_text : (S : State) (text : List ℕ) (v w : Value) → IsStateText P S text v → IsStateText P S text w → v ≡ w
  same_text S text v w is also =
      let declared : Some also.number ≡ Some is.number = sym also.is_declared ∙ is.is_declared in
      let numbers : also.number ≡ is.number = cc in
      let both : Some also.replica ≡ Some is.replica = sym also.stands ∙ ap (slice_get P.replicas) numbers ∙ is.stands in
      let same : also.replica ≡ is.replica = cc in
      one_value P is.replica.state text v w lawful is.is_text (subst (λ (r : ReplicaDef). IsText P r.state text w) same also.is_text)

  same_event : (S : State) (c : Command) (e f : Event) → IsEventOf P S c e → IsEventOf P S c f → e ≡ f
  same_event S (replicas name count) e f is also = absurd is
  same_event S (update r text) e f (v, one, is) (w, other, also) =
      let same : v ≡ w = same_text S text v w is also in
      one ∙ ap (event.Update r) same ∙ sym other
  same_event S (send r) e f is also = is ∙ sym also
  same_event S (deliver k r) e f is also = is ∙ sym also
  same_event S (show r) e f is also = is ∙ sym also

  same_number_of : (name : List ℕ) (m n : ℕ) → IsDeclaration P name m → IsDeclaration P name n → m ≡ n
  same_number_of name m n is also = one_place P.names.replicas (replicas_distinct P lawful) m n name is.named also.named

  no_event : (S : State) (c : Command) (name : List ℕ) (count : ℕ) (e : Event) → c ≡ replicas name count → IsEventOf P S c e → ⊥
  no_event S c name count e is asks = subst (λ (x : Command). IsEventOf P S x e) is asks

  same_taken : (S : State) (c : Command) (T U : State) (events others : List Event) → Takes P S c T events → Takes P S c U others → SameTaken T U events others
  same_taken S c T U events others (begins name count n is declared state nothing) (begins own number m also declares states none_too) =
      let commands : replicas own number ≡ replicas name count = sym also ∙ is in
      let names : own ≡ name = cc in
      let counts : number ≡ count = cc in
      let numbers : n ≡ m = same_number_of name n m declared (subst (λ (w : List ℕ). IsDeclaration P w m) names declares) in
      let made : ℕ → ℕ → State = λ a b. record { declaration = Some a; count = b; messages = 0; events = 0 } in
      let state_is : T ≡ U = state ∙ ap (λ (a : ℕ). made a count) numbers ∙ ap (made m) (sym counts) ∙ sym states in
      record { state = state_is; events_are = nothing ∙ sym none_too }
  same_taken S c T U events others (begins name count n is declared state nothing) (goes_on e asks states list) = absurd (no_event S c name count e is asks)
  same_taken S c T U events others (goes_on e asks states list) (begins name count n is declared state nothing) = absurd (no_event S c name count e is asks)
  same_taken S c T U events others (goes_on e asks state list) (goes_on f also states lists) =
      let same : e ≡ f = same_event S c e f asks also in
      record { state = state ∙ ap (after S) same ∙ sym states; events_are = list ∙ ap (λ (x : Event). x ∷ []) same ∙ sym lists }

  same_kept : (S : State) (line : List ℕ) (T U : State) (events others : List Event) → IsKept P S line T events → IsKept P S line U others → SameTaken T U events others
  same_kept S line T U events others is also =
      let same : also.command ≡ is.command = same_command S.declaration line also.command is.command also.is_line is.is_line in
      same_taken S is.command T U events others is.takes (subst (λ (c : Command). Takes P S c U others) same also.takes)

  -- Two ways to go as far as the lines keep the rules are one.
  record Reached (lines others : List (List ℕ)) (T U : State) (one other : List Event) (rest back : List ℕ) : Type 0 where
    lines_are : lines ≡ others
    state : T ≡ U
    events : one ≡ other
    rest_is : rest ≡ back

  reach : {S T U : State} {lines others : List (List ℕ)} {one other : List Event} → AreKept P S lines T one → AreKept P S others U other → (rest back : List ℕ) →
      ended lines ++ rest ≡ ended others ++ back → Halts P T rest → Halts P U back → Reached lines others T U one other rest back
  reach none none rest back e stops halts = record { lines_are = refl; state = refl; events = refl; rest_is = e }
  reach none (more {line} {lines} kept others all) rest back e stops halts = absurd (stops line (ended lines ++ back) _ _ (e ∙ ended_more line lines back) kept)
  reach (more {line} {lines} kept others all) none rest back e stops halts = absurd (halts line (ended lines ++ rest) _ _ (sym e ∙ ended_more line lines rest) kept)
  reach {S} {T} {U} (more {T = A} {line = line} {lines = lines} {events = front} {others = behind} kept others all) (more {T = B} {line = own} {lines = rows} {events = first} {others = last} also these whole) rest back e stops halts =
      let s : Same own line (ended rows ++ back) (ended lines ++ rest) = same_line own line (ended rows ++ back) (ended lines ++ rest) also.one_line kept.one_line (sym (ended_more own rows back) ∙ sym e ∙ ended_more line lines rest) in
      let t : SameTaken B A first front = same_kept S line B A first front (subst (λ (l : List ℕ). IsKept P S l B first) s.front also) kept in
      let r : Reached lines rows T U behind last rest back = reach others (subst (λ (V : State). AreKept P V rows U last) t.state these) rest back (sym s.back) stops halts in
      let heads : line ≡ own = sym s.front in
      let tails : lines ≡ rows = r.lines_are in
      record {
        lines_are = cc;
        state = r.state;
        events = all ∙ ap (λ (xs : List Event). xs ++ behind) (sym t.events_are) ∙ ap (λ (xs : List Event). first ++ xs) r.events ∙ sym whole;
        rest_is = r.rest_is;
      }

  one_schedule_is : (text : List ℕ) (s t : Schedule) → IsSchedule P text s → IsSchedule P text t → s ≡ t
  one_schedule_is text s t is also =
      let e : ended is.lines ++ [] ≡ ended also.lines ++ [] = append-nil (ended is.lines) ∙ sym is.whole ∙ also.whole ∙ sym (append-nil (ended also.lines)) in
      let r : Reached is.lines also.lines is.state also.state s.events t.events [] [] = reach is.kept also.kept [] [] e (nothing_halts P is.state) (nothing_halts P also.state) in
      let numbers : Some s.declaration ≡ Some t.declaration = sym is.declaration ∙ ap (λ (S : State). S.declaration) r.state ∙ also.declaration in
      let number : s.declaration ≡ t.declaration = cc in
      let count : s.count ≡ t.count = sym is.count ∙ ap (λ (S : State). S.count) r.state ∙ also.count in
      let list : s.events ≡ t.events = r.events in
      λ i. record { declaration = number i; count = count i; events = list i }

  one_fault_is : (text : List ℕ) (line other : ℕ) (kind why : ScheduleKind) → IsFault P text line kind → IsFault P text other why → (line ≡ other) × (kind ≡ why)
  one_fault_is text line other kind why is also =
      let r : Reached is.lines also.lines is.state also.state is.events also.events is.rest also.rest =
      reach is.kept also.kept is.rest also.rest (sym is.whole ∙ also.whole) (breaks_halts P is.state is.rest kind is.breaks) (breaks_halts P also.state also.rest why also.breaks) in
      let back : Breaks P is.state is.rest why = subst (λ (S : State). Breaks P S is.rest why) (sym r.state) (subst (λ (t : List ℕ). Breaks P also.state t why) (sym r.rest_is) also.breaks) in (
        is.number ∙ ap (λ (ls : List (List ℕ)). length ls + 1) r.lines_are ∙ sym also.number,
        breaks_one P is.state is.rest kind why is.breaks back,
      )

  declared_breaks : (S : State) (n : ℕ) (kind : ScheduleKind) → S.declaration ≡ Some n → Breaks P S [] kind → ⊥
  declared_breaks S n kind is (ends empty due kind_is) = let q : Some n ≡ None = sym is ∙ due in cc
  declared_breaks S n kind is (unfinished some free kind_is) = omega arith
  declared_breaks S n kind is (wrong line begins_so w) = nothing_begins line begins_so.rest begins_so.whole

  never_both_is : (text : List ℕ) (s : Schedule) (line : ℕ) (kind : ScheduleKind) → IsSchedule P text s → IsFault P text line kind → ⊥
  never_both_is text s line kind is also =
      let r : Reached is.lines also.lines is.state also.state s.events also.events [] also.rest =
      reach is.kept also.kept [] also.rest (append-nil (ended is.lines) ∙ sym is.whole ∙ also.whole) (nothing_halts P is.state) (breaks_halts P also.state also.rest kind also.breaks) in
      let back : Breaks P is.state [] kind = subst (λ (S : State). Breaks P S [] kind) (sym r.state) (subst (λ (t : List ℕ). Breaks P also.state t kind) (sym r.rest_is) also.breaks) in
      declared_breaks is.state s.declaration kind is.declaration back

pub one_schedule_by : OneValue → OneSchedule
one_schedule_by one_value = λ P text s t lawful. one_schedule_is P one_value lawful text s t

pub one_fault_by : OneValue → OneFault
one_fault_by one_value = λ P text line other kind why lawful. one_fault_is P one_value lawful text line other kind why

pub never_both_by : OneValue → NeverBoth
never_both_by one_value = λ P text s line kind lawful. never_both_is P one_value lawful text s line kind
