-- What the words of a line say.
use Rattle.std.proofs.Common.{◌≡◌, ◌≢◌, ℕ, ◌<◌, ◌^◌, true, false, List, ◌∷◌, ◌++◌, length, get_or, Option, Some, None, refl, sym, ap, ◌∙◌, subst, arith, codes}
use Rattle.std.specs.Prelude.{Contains, MatchOption, IsTrue}
use Rattle.std.specs.Fmt.{decimal}
use Rattle.std.specs.Str.{bytes_eq}
use Rattle.std.proofs.lemmas.Slice.Eq.{bytes_eq-Decides}
use Rattle.std.proofs.lemmas.List.Elements.{recursion_from_All}
use Rattle.px_base.specs.NameForms.{is_name_part, IsLowerName}
use Rattle.px_schedule.specs.Schedules.{Command, replicas, update, send, deliver, show, line_of, IsDueAt, IsLineOf}
use Rattle.px_schedule.specs.declared.commands.Request.{Request}
use Rattle.px_schedule.specs.declared.commands.Request.TheVariants as request
use Rattle.px_schedule.specs.Fields.{IsCut, keyword, fields_of, IsSaid, said}
use Rattle.px_schedule.proofs.RunFacts.{Same}
use Rattle.px_schedule.proofs.FieldFacts.{Lacks, lacks_by, cut_is, no_cut, number_lacks}

-- a line is its command's word, a space, and the fields
pub line_is : (c : Command) → line_of c ≡ keyword c ++ 32 ∷ fields_of c
line_is (replicas name count) = refl
line_is (update r value) = refl
line_is (send r) = refl
line_is (deliver k r) = refl
line_is (show r) = refl

pub keyword_lacks : (c : Command) → Lacks 32 (keyword c)
keyword_lacks (replicas name count) = (refl, (refl, (refl, (refl, (refl, (refl, (refl, (refl, tt))))))))
keyword_lacks (update r value) = (refl, (refl, (refl, (refl, (refl, (refl, tt))))))
keyword_lacks (send r) = (refl, (refl, (refl, (refl, tt))))
keyword_lacks (deliver k r) = (refl, (refl, (refl, (refl, (refl, (refl, (refl, tt)))))))
keyword_lacks (show r) = (refl, (refl, (refl, (refl, tt))))

-- a line without a space is no command's
pub no_space : (line : List ℕ) → (Contains line 32 → ⊥) → (d : Option ℕ) (c : Command) → IsLineOf d line c → ⊥
no_space line absent d c is = no_cut 32 line (keyword c) (fields_of c) absent (is.spelled ∙ line_is c)

-- what is cut off a command's line are its word and its fields
pub cut_said : (line word fields : List ℕ) → IsCut 32 line word fields → (d : Option ℕ) (c : Command) → IsLineOf d line c → IsSaid word fields c
cut_said line word fields cut d c is =
    let s : Same word (keyword c) fields (fields_of c) = cut_is 32 line word fields (keyword c) (fields_of c) cut (keyword_lacks c) (is.spelled ∙ line_is c) in
    record { form = is.form; word = s.front; fields = s.back }

pub said_line : (line word fields : List ℕ) → IsCut 32 line word fields → (d : Option ℕ) (c : Command) → IsDueAt d c → IsSaid word fields c → IsLineOf d line c
said_line line word fields cut d c due is = record {
  form = is.form;
  spelled = cut.whole ∙ ap (λ (w : List ℕ). w ++ 32 ∷ fields) is.word ∙ ap (λ (rest : List ℕ). keyword c ++ 32 ∷ rest) is.fields ∙ sym (line_is c);
  due = due;
}

pub name_lacks : (name : List ℕ) → IsLowerName name → Lacks 32 name
name_lacks name lower = lacks_by is_name_part 32 refl name (recursion_from_All (λ (byte : ℕ). IsTrue (is_name_part byte)) name lower.0.rest)

differs : (word other : List ℕ) → bytes_eq word other ≡ false → word ≡ other → ⊥
differs word other bars same = let q : true ≡ false = sym ((bytes_eq-Decides word other).1 same) ∙ bars in cc

-- The fields are those of an opening.
record OpensWith (fields name rest : List ℕ) : Type 0 where
  lower : IsLowerName name
  number : ℕ
  small : number < 2 ^ 64
  spelled : rest ≡ decimal number

-- the first line begins with its word
pub opening_word : (line word fields : List ℕ) → IsCut 32 line word fields → bytes_eq word (codes "replicas") ≡ false → (c : Command) → IsLineOf None line c → ⊥
opening_word line word fields cut bars (replicas name count) is = differs word (codes "replicas") bars (cut_said line word fields cut None (replicas name count) is).word
opening_word line word fields cut bars (update r value) is = is.due
opening_word line word fields cut bars (send r) is = is.due
opening_word line word fields cut bars (deliver k r) is = is.due
opening_word line word fields cut bars (show r) is = is.due

pub opening_space : (line word fields : List ℕ) → IsCut 32 line word fields → (Contains fields 32 → ⊥) → (c : Command) → IsLineOf None line c → ⊥
opening_space line word fields cut absent (replicas name count) is = no_cut 32 fields name (decimal count) absent (cut_said line word fields cut None (replicas name count) is).fields
opening_space line word fields cut absent (update r value) is = is.due
opening_space line word fields cut absent (send r) is = is.due
opening_space line word fields cut absent (deliver k r) is = is.due
opening_space line word fields cut absent (show r) is = is.due

opening_fields : (line word fields front back : List ℕ) → IsCut 32 line word fields → IsCut 32 fields front back → (c : Command) → IsLineOf None line c → OpensWith fields front back
opening_fields line word fields front back cut inner (replicas name count) is =
    let said : IsSaid word fields (replicas name count) = cut_said line word fields cut None (replicas name count) is in
    let s : Same front name back (decimal count) = cut_is 32 fields front back name (decimal count) inner (name_lacks name is.form.0) said.fields in
    record { lower = subst IsLowerName (sym s.front) is.form.0; number = count; small = is.form.1; spelled = s.back }
opening_fields line word fields front back cut inner (update r value) is = absurd is.due
opening_fields line word fields front back cut inner (send r) is = absurd is.due
opening_fields line word fields front back cut inner (deliver k r) is = absurd is.due
opening_fields line word fields front back cut inner (show r) is = absurd is.due

pub opening_name : (line word fields front back : List ℕ) → IsCut 32 line word fields → IsCut 32 fields front back → (IsLowerName front → ⊥) → (c : Command) → IsLineOf None line c → ⊥
opening_name line word fields front back cut inner bars c is = bars (opening_fields line word fields front back cut inner c is).lower

pub opening_number : (line word fields front back : List ℕ) → IsCut 32 line word fields → IsCut 32 fields front back → ((n : ℕ) → n < 2 ^ 64 → back ≢ decimal n) → (c : Command) → IsLineOf None line c → ⊥
opening_number line word fields front back cut inner bars c is =
    let o : OpensWith fields front back = opening_fields line word fields front back cut inner c is in
    bars o.number o.small o.spelled

pub opening_is : (line word fields front back : List ℕ) (n : ℕ) → IsCut 32 line word fields → IsCut 32 fields front back → bytes_eq word (codes "replicas") ≡ true → IsLowerName front → n < 2 ^ 64 → back ≡ decimal n → IsLineOf None line (replicas front n)
opening_is line word fields front back n cut inner is lower small spelled = said_line line word fields cut None (replicas front n) tt (record {
  form = (lower, small);
  word = (bytes_eq-Decides word (codes "replicas")).0 is;
  fields = inner.whole ∙ ap (λ (rest : List ℕ). front ++ 32 ∷ rest) spelled;
})

-- an update's fields
pub update_space : (fields : List ℕ) → (Contains fields 32 → ⊥) → (c : Command) → IsSaid (codes "update") fields c → ⊥
update_space fields absent (update r value) is = no_cut 32 fields (decimal r) value absent is.fields
update_space fields absent (replicas name count) is = let q : length (codes "update") ≡ length (codes "replicas") = ap (λ (w : List ℕ). length w) is.word in absurd (omega arith)
update_space fields absent (send r) is = let q : length (codes "update") ≡ length (codes "send") = ap (λ (w : List ℕ). length w) is.word in absurd (omega arith)
update_space fields absent (deliver k r) is = let q : length (codes "update") ≡ length (codes "deliver") = ap (λ (w : List ℕ). length w) is.word in absurd (omega arith)
update_space fields absent (show r) is = let q : length (codes "update") ≡ length (codes "show") = ap (λ (w : List ℕ). length w) is.word in absurd (omega arith)

pub update_number : (fields front back : List ℕ) → IsCut 32 fields front back → ((n : ℕ) → n < 2 ^ 64 → front ≢ decimal n) → (c : Command) → IsSaid (codes "update") fields c → ⊥
update_number fields front back cut bars (update r value) is = bars r is.form (cut_is 32 fields front back (decimal r) value cut (number_lacks r is.form) is.fields).front
update_number fields front back cut bars (replicas name count) is = let q : length (codes "update") ≡ length (codes "replicas") = ap (λ (w : List ℕ). length w) is.word in absurd (omega arith)
update_number fields front back cut bars (send r) is = let q : length (codes "update") ≡ length (codes "send") = ap (λ (w : List ℕ). length w) is.word in absurd (omega arith)
update_number fields front back cut bars (deliver k r) is = let q : length (codes "update") ≡ length (codes "deliver") = ap (λ (w : List ℕ). length w) is.word in absurd (omega arith)
update_number fields front back cut bars (show r) is = let q : length (codes "update") ≡ length (codes "show") = ap (λ (w : List ℕ). length w) is.word in absurd (omega arith)

pub update_is : (fields front back : List ℕ) (n : ℕ) → IsCut 32 fields front back → n < 2 ^ 64 → front ≡ decimal n → IsSaid (codes "update") fields (update n back)
update_is fields front back n cut small spelled = record { form = small; word = refl; fields = cut.whole ∙ ap (λ (w : List ℕ). w ++ 32 ∷ back) spelled }

-- a delivery's fields
pub deliver_space : (fields : List ℕ) → (Contains fields 32 → ⊥) → (c : Command) → IsSaid (codes "deliver") fields c → ⊥
deliver_space fields absent (deliver k r) is = no_cut 32 fields (decimal k) (decimal r) absent is.fields
deliver_space fields absent (replicas name count) is = let q : length (codes "deliver") ≡ length (codes "replicas") = ap (λ (w : List ℕ). length w) is.word in absurd (omega arith)
deliver_space fields absent (update r value) is = let q : length (codes "deliver") ≡ length (codes "update") = ap (λ (w : List ℕ). length w) is.word in absurd (omega arith)
deliver_space fields absent (send r) is = let q : length (codes "deliver") ≡ length (codes "send") = ap (λ (w : List ℕ). length w) is.word in absurd (omega arith)
deliver_space fields absent (show r) is = let q : length (codes "deliver") ≡ length (codes "show") = ap (λ (w : List ℕ). length w) is.word in absurd (omega arith)

-- The fields are those of a delivery.
record DeliversWith (front back : List ℕ) : Type 0 where
  message : ℕ
  replica : ℕ
  small_message : message < 2 ^ 64
  small_replica : replica < 2 ^ 64
  front_is : front ≡ decimal message
  back_is : back ≡ decimal replica

deliver_fields : (fields front back : List ℕ) → IsCut 32 fields front back → (c : Command) → IsSaid (codes "deliver") fields c → DeliversWith front back
deliver_fields fields front back cut (deliver k r) is =
    let s : Same front (decimal k) back (decimal r) = cut_is 32 fields front back (decimal k) (decimal r) cut (number_lacks k is.form.0) is.fields in
    record { message = k; replica = r; small_message = is.form.0; small_replica = is.form.1; front_is = s.front; back_is = s.back }
deliver_fields fields front back cut (replicas name count) is = let q : length (codes "deliver") ≡ length (codes "replicas") = ap (λ (w : List ℕ). length w) is.word in absurd (omega arith)
deliver_fields fields front back cut (update r value) is = let q : length (codes "deliver") ≡ length (codes "update") = ap (λ (w : List ℕ). length w) is.word in absurd (omega arith)
deliver_fields fields front back cut (send r) is = let q : length (codes "deliver") ≡ length (codes "send") = ap (λ (w : List ℕ). length w) is.word in absurd (omega arith)
deliver_fields fields front back cut (show r) is = let q : length (codes "deliver") ≡ length (codes "show") = ap (λ (w : List ℕ). length w) is.word in absurd (omega arith)

pub deliver_message : (fields front back : List ℕ) → IsCut 32 fields front back → ((n : ℕ) → n < 2 ^ 64 → front ≢ decimal n) → (c : Command) → IsSaid (codes "deliver") fields c → ⊥
deliver_message fields front back cut bars c is =
    let d : DeliversWith front back = deliver_fields fields front back cut c is in
    bars d.message d.small_message d.front_is

pub deliver_replica : (fields front back : List ℕ) → IsCut 32 fields front back → ((n : ℕ) → n < 2 ^ 64 → back ≢ decimal n) → (c : Command) → IsSaid (codes "deliver") fields c → ⊥
deliver_replica fields front back cut bars c is =
    let d : DeliversWith front back = deliver_fields fields front back cut c is in
    bars d.replica d.small_replica d.back_is

pub deliver_is : (fields front back : List ℕ) (k r : ℕ) → IsCut 32 fields front back → k < 2 ^ 64 → front ≡ decimal k → r < 2 ^ 64 → back ≡ decimal r → IsSaid (codes "deliver") fields (deliver k r)
deliver_is fields front back k r cut small front_is less back_is = record {
  form = (small, less);
  word = refl;
  fields = cut.whole ∙ ap (λ (w : List ℕ). w ++ 32 ∷ back) front_is ∙ ap (λ (rest : List ℕ). decimal k ++ 32 ∷ rest) back_is;
}

-- the fields of a sending and of a show
pub send_number : (fields : List ℕ) → ((n : ℕ) → n < 2 ^ 64 → fields ≢ decimal n) → (c : Command) → IsSaid (codes "send") fields c → ⊥
send_number fields bars (send r) is = bars r is.form is.fields
send_number fields bars (replicas name count) is = let q : length (codes "send") ≡ length (codes "replicas") = ap (λ (w : List ℕ). length w) is.word in absurd (omega arith)
send_number fields bars (update r value) is = let q : length (codes "send") ≡ length (codes "update") = ap (λ (w : List ℕ). length w) is.word in absurd (omega arith)
send_number fields bars (deliver k r) is = let q : length (codes "send") ≡ length (codes "deliver") = ap (λ (w : List ℕ). length w) is.word in absurd (omega arith)
send_number fields bars (show r) is = let q : get_or (codes "send") 1 0 ≡ get_or (codes "show") 1 0 = ap (λ (w : List ℕ). get_or w 1 0) is.word in absurd (omega arith)

pub send_is : (fields : List ℕ) (n : ℕ) → n < 2 ^ 64 → fields ≡ decimal n → IsSaid (codes "send") fields (send n)
send_is fields n small spelled = record { form = small; word = refl; fields = spelled }

pub show_number : (fields : List ℕ) → ((n : ℕ) → n < 2 ^ 64 → fields ≢ decimal n) → (c : Command) → IsSaid (codes "show") fields c → ⊥
show_number fields bars (show r) is = bars r is.form is.fields
show_number fields bars (replicas name count) is = let q : length (codes "show") ≡ length (codes "replicas") = ap (λ (w : List ℕ). length w) is.word in absurd (omega arith)
show_number fields bars (update r value) is = let q : length (codes "show") ≡ length (codes "update") = ap (λ (w : List ℕ). length w) is.word in absurd (omega arith)
show_number fields bars (deliver k r) is = let q : length (codes "show") ≡ length (codes "deliver") = ap (λ (w : List ℕ). length w) is.word in absurd (omega arith)
show_number fields bars (send r) is = let q : get_or (codes "show") 1 0 ≡ get_or (codes "send") 1 0 = ap (λ (w : List ℕ). get_or w 1 0) is.word in absurd (omega arith)

pub show_is : (fields : List ℕ) (n : ℕ) → n < 2 ^ 64 → fields ≡ decimal n → IsSaid (codes "show") fields (show n)
show_is fields n small spelled = record { form = small; word = refl; fields = spelled }

-- what the fields behind a word ask for is what they ask for behind that word's text
pub at_word : (word key fields : List ℕ) → bytes_eq word key ≡ true → (r : Option Request) → MatchOption r ((c : Command) → IsSaid key fields c → ⊥) (λ q. IsSaid key fields (said q)) →
    MatchOption r ((c : Command) → IsDueAt (Some 0) c → IsSaid word fields c → ⊥) (λ q. IsSaid word fields (said q))
at_word word key fields same (Some q) is = subst (λ (w : List ℕ). IsSaid w fields (said q)) (sym ((bytes_eq-Decides word key).0 same)) is
at_word word key fields same None bars = λ c due is. bars c (subst (λ (w : List ℕ). IsSaid w fields c) ((bytes_eq-Decides word key).0 same) is)

-- no other word is a request's
pub no_word : (word fields : List ℕ) → bytes_eq word (codes "update") ≡ false → bytes_eq word (codes "deliver") ≡ false → bytes_eq word (codes "send") ≡ false → bytes_eq word (codes "show") ≡ false →
    (c : Command) → IsDueAt (Some 0) c → IsSaid word fields c → ⊥
no_word word fields u d s h (replicas name count) due is = due
no_word word fields u d s h (update r value) due is = differs word (codes "update") u is.word
no_word word fields u d s h (deliver k r) due is = differs word (codes "deliver") d is.word
no_word word fields u d s h (send r) due is = differs word (codes "send") s is.word
no_word word fields u d s h (show r) due is = differs word (codes "show") h is.word

due_later : (n : ℕ) (c : Command) → IsDueAt (Some n) c → IsDueAt (Some 0) c
due_later n (replicas name count) due = absurd due
due_later n (update r value) due = tt
due_later n (send r) due = tt
due_later n (deliver k r) due = tt
due_later n (show r) due = tt

request_due : (n : ℕ) (q : Request) → IsDueAt (Some n) (said q)
request_due n (request.Update r value) = tt
request_due n (request.Send r) = tt
request_due n (request.Deliver k r) = tt
request_due n (request.Show r) = tt

-- what the fields say is what the line says
pub line_said : (line word fields : List ℕ) → IsCut 32 line word fields → (r : Option Request) → MatchOption r ((c : Command) → IsDueAt (Some 0) c → IsSaid word fields c → ⊥) (λ q. IsSaid word fields (said q)) →
    MatchOption r ((n : ℕ) (c : Command) → IsLineOf (Some n) line c → ⊥) (λ q. (n : ℕ) → IsLineOf (Some n) line (said q))
line_said line word fields cut (Some q) is = λ n. said_line line word fields cut (Some n) (said q) (request_due n q) is
line_said line word fields cut None bars = λ n c is. bars c (due_later n c is.due) (cut_said line word fields cut (Some n) c is)
