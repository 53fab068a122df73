-- What a request breaks first, and the event that it asks for.
use Rattle.std.proofs.Common.{◌≡◌, ℕ, ◌+◌, ◌<◌, ◌≤◌, List, [], ◌∷◌, ◌++◌, length, Some, Result, Ok, Err, refl, sym, ap, ◌∙◌, subst, arith}
use Rattle.std.specs.Prelude.{Contains, IfErr, IsErrAnd, slice_get}
use Rattle.std.proofs.lemmas.List.{length-append}
use Rattle.px_base.specs.declared.limits.TheConstants.{EVENTS}
use Rattle.px_terms.specs.declared.types.Ty.{Ty}
use Rattle.px_terms.specs.declared.term.Value.{Value}
use Rattle.px_terms.specs.declared.program.ReplicaDef.{ReplicaDef}
use Rattle.px_terms.specs.declared.program.Program.{Program}
use Rattle.px_schedule.specs.declared.schedule.Event.{Event}
use Rattle.px_schedule.specs.declared.schedule.Event.TheVariants as event
use Rattle.px_schedule.specs.declared.schedule_end.ScheduleKind.TheVariants.{Form, NoSuchReplica, NoSuchMessage, BadValue, TooMany}
use Rattle.px_schedule.specs.declared.value_end.ValueEnd.{ValueEnd}
use Rattle.px_schedule.specs.declared.value_end.ValueEnd.TheVariants as value_end
use Rattle.px_schedule.specs.declared.line_end.LineEnd.{LineEnd}
use Rattle.px_schedule.specs.declared.line_end.LineEnd.TheVariants as line_end
use Rattle.px_schedule.specs.declared.commands.Request.{Request}
use Rattle.px_schedule.specs.declared.commands.Request.TheVariants as request
use Rattle.px_schedule.specs.declared.events.Opened.{Opened}
use Rattle.px_schedule.specs.declared.events.Taken.{Taken}
use Rattle.px_schedule.specs.ValueGrammar.{IsText}
use Rattle.px_schedule.specs.Schedules.{Command, update, send, deliver, show, IsLineOf, State, IsStateText, rules, FirstBroken, here, later, after, goes_on, IsWrong, formless, broken}
use Rattle.px_schedule.specs.Fields.{IsOpened, state_at, said, Asks, EndsBroken, EndsWrong, Adds, messages_of, of_value}

-- a refusal that is handed on says what it said
pub passed_on : {T : Type 0} (Says : LineEnd → Type 0) (r : Result T LineEnd) (end : LineEnd) → IsErrAnd r (λ (e : LineEnd). e ≡ end) → Says end → IfErr r Says
passed_on Says (Ok x) end is says = absurd is
passed_on Says (Err e) end is says = subst Says (sym is) says

module _ (P : Program) (S : State) where
  pub update_replica : (r : ℕ) (text : List ℕ) → S.events < EVENTS → S.count ≤ r → (end : LineEnd) → end ≡ line_end.Fault NoSuchReplica → EndsBroken P S (update r text) end
  update_replica r text room large end is = subst (EndsBroken P S (update r text)) (sym is) (later room (here (λ (less : r < S.count). omega arith) refl))

  pub send_replica : (r : ℕ) → S.events < EVENTS → S.count ≤ r → (end : LineEnd) → end ≡ line_end.Fault NoSuchReplica → EndsBroken P S (send r) end
  send_replica r room large end is = subst (EndsBroken P S (send r)) (sym is) (later room (here (λ (less : r < S.count). omega arith) refl))

  pub show_replica : (r : ℕ) → S.events < EVENTS → S.count ≤ r → (end : LineEnd) → end ≡ line_end.Fault NoSuchReplica → EndsBroken P S (show r) end
  show_replica r room large end is = subst (EndsBroken P S (show r)) (sym is) (later room (here (λ (less : r < S.count). omega arith) refl))

  pub deliver_message : (k r : ℕ) → S.events < EVENTS → S.messages ≤ k → (end : LineEnd) → end ≡ line_end.Fault NoSuchMessage → EndsBroken P S (deliver k r) end
  deliver_message k r room large end is = subst (EndsBroken P S (deliver k r)) (sym is) (later room (here (λ (less : k < S.messages). omega arith) refl))

  pub deliver_replica : (k r : ℕ) → S.events < EVENTS → k < S.messages → S.count ≤ r → (end : LineEnd) → end ≡ line_end.Fault NoSuchReplica → EndsBroken P S (deliver k r) end
  deliver_replica k r room sent large end is = subst (EndsBroken P S (deliver k r)) (sym is) (later room (later sent (here (λ (less : r < S.count). omega arith) refl)))

  pub update_value : (r : ℕ) (text : List ℕ) → S.events < EVENTS → r < S.count → ((v : Value) → IsStateText P S text v → ⊥) → EndsBroken P S (update r text) (line_end.Fault BadValue)
  update_value r text room less none_is = later room (later less (here (λ (found : (v : Value) × IsStateText P S text v). none_is found.0 found.1) refl))

  pub asks_update : (r n : ℕ) (text : List ℕ) (v : Value) → S.events < EVENTS → r < S.count → n ≡ r → IsStateText P S text v → Asks P S (update r text) (event.Update n v)
  asks_update r n text v room less same is = record { holds = (room, (less, ((v, is), tt))); is_event = (v, ap (λ (k : ℕ). event.Update k v) same, is) }

  pub asks_send : (r n : ℕ) → S.events < EVENTS → r < S.count → n ≡ r → Asks P S (send r) (event.Send n)
  asks_send r n room less same = record { holds = (room, (less, tt)); is_event = ap event.Send same }

  pub asks_show : (r n : ℕ) → S.events < EVENTS → r < S.count → n ≡ r → Asks P S (show r) (event.Show n)
  asks_show r n room less same = record { holds = (room, (less, tt)); is_event = ap event.Show same }

  pub asks_deliver : (k r m n : ℕ) → S.events < EVENTS → k < S.messages → r < S.count → m ≡ k → n ≡ r → Asks P S (deliver k r) (event.Deliver m n)
  asks_deliver k r m n room sent less same also = record { holds = (room, (sent, (less, tt))); is_event = ap (λ (a : ℕ). event.Deliver a n) same ∙ ap (λ (b : ℕ). event.Deliver k b) also }

-- a value of the state's type is one of what is declared
pub state_text : (P : Program) (o : Opened) (taken : Taken) → IsOpened P o → (text : List ℕ) (v : Value) → IsText P o.state.now text v → IsStateText P (state_at o taken) text v
state_text P o taken opened text v is = record {
  number = o.declaration;
  replica = opened.replica;
  is_declared = refl;
  stands = opened.stands;
  is_text = subst (λ (T : Ty). IsText P T text v) (sym opened.state) is;
}

text_of : (P : Program) (o : Opened) (taken : Taken) → IsOpened P o → (text : List ℕ) (v : Value) → IsStateText P (state_at o taken) text v → IsText P o.state.now text v
text_of P o taken opened text v is =
    let declared : Some o.declaration ≡ Some is.number = is.is_declared in
    let numbers : is.number ≡ o.declaration = cc in
    let both : Some is.replica ≡ Some opened.replica = sym is.stands ∙ ap (slice_get P.replicas) numbers ∙ opened.stands in
    let same : is.replica ≡ opened.replica = cc in
    subst (λ (T : Ty). IsText P T text v) (ap (λ (r : ReplicaDef). r.state) same ∙ opened.state) is.is_text

-- a refusal of a value says that the line's value is none
pub no_value : (P : Program) (o : Opened) (taken : Taken) → IsOpened P o → (r : ℕ) (text : List ℕ) → length taken.events < EVENTS → r < o.count → (end : ValueEnd) →
    ((v : Value) → IsText P o.state.now text v → end ≡ value_end.NoMemory) → EndsBroken P (state_at o taken) (update r text) (of_value end)
no_value P o taken opened r text room less value_end.Fault only =
    update_value P (state_at o taken) r text room less (λ v is. let q : value_end.Fault ≡ value_end.NoMemory = only v (text_of P o taken opened text v is) in cc)
no_value P o taken opened r text room less value_end.NoMemory only = tt

-- each request's first rule is that one event more is within the limit
no_room_by : (P : Program) (o : Opened) (taken : Taken) (q : Request) → EVENTS ≤ length taken.events → FirstBroken P (state_at o taken) TooMany (rules (said q))
no_room_by P o taken (request.Update r value) full = here (λ (less : length taken.events < EVENTS). omega arith) refl
no_room_by P o taken (request.Send r) full = here (λ (less : length taken.events < EVENTS). omega arith) refl
no_room_by P o taken (request.Deliver k r) full = here (λ (less : length taken.events < EVENTS). omega arith) refl
no_room_by P o taken (request.Show r) full = here (λ (less : length taken.events < EVENTS). omega arith) refl

pub no_room : (P : Program) (o : Opened) (taken : Taken) (line : List ℕ) (q : Request) → ((n : ℕ) → IsLineOf (Some n) line (said q)) → EVENTS ≤ length taken.events → IsWrong P (state_at o taken) line TooMany
no_room P o taken line q is full = broken (said q) (is o.declaration) (no_room_by P o taken q full)

pub no_form : (P : Program) (o : Opened) (taken : Taken) (line : List ℕ) → ((n : ℕ) (c : Command) → IsLineOf (Some n) line c → ⊥) → IsWrong P (state_at o taken) line Form
no_form P o taken line none_is = formless (none_is o.declaration) refl

-- what a refusal says of a request it says of its line
pub line_breaks : (P : Program) (o : Opened) (taken : Taken) (line : List ℕ) (q : Request) → ((n : ℕ) → IsLineOf (Some n) line (said q)) → (end : LineEnd) → EndsBroken P (state_at o taken) (said q) end → EndsWrong P (state_at o taken) line end
line_breaks P o taken line q is (line_end.Fault kind) first = broken (said q) (is o.declaration) first
line_breaks P o taken line q is line_end.NoMemory first = tt

after_is : (o : Opened) (before next : Taken) (e : Event) → next.events ≡ before.events ++ e ∷ [] → next.messages ≡ before.messages + messages_of e → state_at o next ≡ after (state_at o before) e
after_is o before next e added sent = made (length next.events) next.messages e count sent
  where
    count : length next.events ≡ length before.events + 1
    count = ap length added ∙ length-append before.events (e ∷ [])

    whole : ℕ → ℕ → State
    whole messages events = record { declaration = Some o.declaration; count = o.count; messages = messages; events = events }

    made : (events messages : ℕ) (e : Event) → events ≡ length before.events + 1 → messages ≡ before.messages + messages_of e → whole messages events ≡ after (state_at o before) e
    made events messages (event.Update r v) many sends = let s : messages ≡ before.messages = omega arith in ap (λ (m : ℕ). whole m events) s ∙ ap (whole before.messages) many
    made events messages (event.Send r) many sends = ap (λ (m : ℕ). whole m events) sends ∙ ap (whole (before.messages + 1)) many
    made events messages (event.Deliver k r) many sends = let s : messages ≡ before.messages = omega arith in ap (λ (m : ℕ). whole m events) s ∙ ap (whole before.messages) many
    made events messages (event.Show r) many sends = let s : messages ≡ before.messages = omega arith in ap (λ (m : ℕ). whole m events) s ∙ ap (whole before.messages) many

few_by : (e : Event) → messages_of e ≤ 1
few_by (event.Update r v) = omega arith
few_by (event.Send r) = omega arith
few_by (event.Deliver k r) = omega arith
few_by (event.Show r) = omega arith

-- a line whose event was added keeps all rules
pub line_adds : (P : Program) (o : Opened) (before next : Taken) (line : List ℕ) (q : Request) (e : Event) → (Contains line 10 → ⊥) → before.messages ≤ length before.events → ((n : ℕ) → IsLineOf (Some n) line (said q)) →
    Asks P (state_at o before) (said q) e → next.events ≡ before.events ++ e ∷ [] → next.messages ≡ before.messages + messages_of e → Adds P o before line next
line_adds P o before next line q e one_line few is asks added sent = record {
  event = e;
  kept = record {
    command = said q;
    one_line = one_line;
    is_line = is o.declaration;
    holds = asks.holds;
    takes = goes_on e asks.is_event (after_is o before next e added sent) refl;
  };
  events = added;
  few =
      let many : length next.events ≡ length before.events + 1 = ap length added ∙ length-append before.events (e ∷ []) in
      let one = few_by e in
      omega arith;
}
