-- For the proofs: how the code of a term lies in the code of its definition. A list of instructions stands for the place where it
-- begins: it is what is left of the definition's code from there on, and a place is counted as its length until the code is placed.
use Rattle.std.specs.Prelude.{ℕ, ◌+◌, ◌-◌, List, [], ◌∷◌, length, map}
use Rattle.px_terms.specs.declared.term.Term.{Term}
use Rattle.px_terms.specs.declared.term.Term.TheOpen.{Term-F}
use Rattle.px_terms.specs.declared.term.Term.TheFolds.{fold-Term}
use Rattle.px_terms.specs.declared.program.Def as definition
use Rattle.px_terms.specs.declared.program.Program.{Program}
use Rattle.px_terms.specs.Descent.{field_count}
use Rattle.px_machine.specs.declared.code.Instr.{Instr}
use Rattle.px_machine.specs.declared.code.Instr.TheVariants.{Local, Lit, Make, Call, Branch, Forget, Jump, Return}
use Rattle.px_machine.specs.Standing.{head_target, targets_of}

-- what stands in front of the instructions that follow, where the frame has so many locals
abbrev pub Part : Type 0
Part = ℕ → List Instr → List Instr

-- parts one after the other
abbrev pub in_order : List Part → Part
in_order [] locals rest = rest
in_order (part ∷ parts) locals rest = part locals (in_order parts locals rest)

-- the arms of a match from constructor k on: each forgets its fields and goes on at the end
abbrev pub arms_code : Program → ℕ → ℕ → List Part → ℕ → ℕ → List Instr → List Instr
arms_code P d k [] locals end rest = rest
arms_code P d k (arm ∷ arms) locals end rest =
    arm (locals + field_count P d k) (Forget (field_count P d k) ∷ Jump end ∷ arms_code P d (k + 1) arms locals end rest)

-- where each of the arms begins
abbrev pub arms_places : Program → ℕ → ℕ → List Part → ℕ → ℕ → List Instr → List ℕ
arms_places P d k [] locals end rest = []
arms_places P d k (arm ∷ arms) locals end rest =
    length (arms_code P d k (arm ∷ arms) locals end rest) ∷ arms_places P d (k + 1) arms locals end rest

-- a match branches to its arms, which end where what follows begins
abbrev pub match_code : Program → ℕ → List Part → Part
match_code P d arms locals rest = Branch (arms_places P d 0 arms locals (length rest) rest) ∷ arms_code P d 0 arms locals (length rest) rest

-- a layer of a term, over the code of its parts
abbrev pub code_step : Program → Term-F Part → Part
code_step P (Term-F.Free n) locals rest = Local n ∷ rest
code_step P (Term-F.Bound n) locals rest = Local (locals - n - 1) ∷ rest
code_step P (Term-F.Lit w) locals rest = Lit w ∷ rest
code_step P (Term-F.Con d k types fields) locals rest = in_order fields locals (Make d k (length fields) ∷ rest)
code_step P (Term-F.Call f funs args) locals rest = in_order args locals (Call (head_target f.head) (targets_of funs) (length args) ∷ rest)
code_step P (Term-F.Match on d types arms) locals rest = on locals (match_code P d arms locals rest)

-- the code of a term
abbrev pub term_code : Program → Term → Part
term_code P = fold-Term Part (code_step P)

-- an instruction with its places counted from the start of so many instructions
abbrev pub placed_instruction : ℕ → Instr → Instr
placed_instruction total (Local n) = Local n
placed_instruction total (Lit w) = Lit w
placed_instruction total (Make d k n) = Make d k n
placed_instruction total (Call t ts n) = Call t ts n
placed_instruction total (Branch places) = Branch (map (λ (place : ℕ). total - place) places)
placed_instruction total (Forget n) = Forget n
placed_instruction total (Jump place) = Jump (total - place)
placed_instruction total Return = Return

-- the code with its places counted from its start
abbrev pub placed : List Instr → List Instr
placed whole = map (placed_instruction (length whole)) whole

-- what a definition's code is before it is placed: its body's, and the return
abbrev pub definition_parts : Program → definition.Def → List Instr
definition_parts P D = term_code P D.body (length D.params) (Return ∷ [])

-- a definition's code
abbrev pub definition_code : Program → definition.Def → List Instr
definition_code P D = placed (definition_parts P D)

-- the code of all definitions, in order
abbrev pub program_code : Program → List (List Instr)
program_code P = map (definition_code P) P.defs
