-- What is found with some splits is found with more.
use Rattle.std.proofs.Common.{ℕ, suc, List}
use Rattle.px_terms.specs.declared.clause.Clause.{Clause}
use Rattle.px_terms.specs.declared.program.Program.{Program}
use Rattle.px_terms.specs.declared.sequent.Sequent.{Sequent}
use Rattle.px_prover.specs.declared.branch.Branch.{Branch}
use Rattle.px_prover.specs.Plain.{IsFound, AreFound, settled, closes, divided, none, more, IsFoundFrom, within, beyond, Plain}

mutual
  found_with_more : {P : Program} {n : ℕ} {own : Clause} {steps splits : ℕ} {b : Branch} → IsFound P n own steps splits b → IsFound P n own steps (suc splits) b
  found_with_more (settled s) = settled s
  found_with_more (closes r c) = closes r c
  found_with_more (divided r u s all) = divided r u s (all_found_with_more all)

  all_found_with_more : {P : Program} {n : ℕ} {own : Clause} {steps splits : ℕ} {branches : List Branch} → AreFound P n own steps splits branches →
      AreFound P n own steps (suc splits) branches
  all_found_with_more none = none
  all_found_with_more (more found all) = more (found_with_more found) (all_found_with_more all)

-- the same from a first sequent
from_with_more : {P : Program} {n splits steps : ℕ} {own : Clause} {s : Sequent} → IsFoundFrom P n own splits steps s → IsFoundFrom P n own (suc splits) steps s
from_with_more (within w found) = within w (found_with_more found)
from_with_more (beyond w at_once) = beyond w at_once

pub plain_with_more : {P : Program} {n splits steps : ℕ} → Plain P n splits steps → Plain P n (suc splits) steps
plain_with_more p = record { clause = p.clause; obligation = p.obligation; on = p.on; variables = p.variables; found = from_with_more p.found }
