use Rattle.std.proofs.Common.{rules, ◌≡◌, ◌-◌, ◌∷◌, [], ◌++◌, ℕ, length, take, drop, sym, ap, ◌∙◌, subst}
use Rattle.px_machine.specs.declared.cells.Cell.{Cell}
use Rattle.px_machine.specs.declared.cells.Cell.TheVariants as cell
use Rattle.px_machine.specs.declared.heap.Heap.{Heap}
use Rattle.px_machine.specs.Cells.{fields_of}
use Rattle.px_machine.specs.Transfer.{CanPut, IsPut}
use Rattle.px_machine.proofs.TransferLemmas.{put_word_in_code, put_construction_in_code}
use Rattle.px_machine.proofs.heap.Heap.put_cell.Goals as goal
use Rattle.px_machine.proofs.heap.Heap.put_cell.Goals.{in-Lit+in_ok-number-in-Lit, in-Con+in_ok-number-in-Con}

pub returns : goal.returns
returns c =
    let long : c.len.result ≡ length c.args.numbers.now.items = search rules in
    elim c.match-cell.branch [
      | in-Lit+in_ok-number-in-Lit w ↦
          let few : c.fields_of.result ≡ 0 = c.fields_of.ensures ∙ ap fields_of w.in-Lit.is in
          subst (λ (x : Cell). IsPut x c.args.self.now c.args.numbers.now.items c.match-cell.self c.push.new.self.items) (sym w.in-Lit.is)
          (subst (λ (h : Heap). IsPut (cell.Lit w.in-Lit.word) c.args.self.now c.args.numbers.now.items h c.push.new.self.items) (sym w.self-is)
          (put_word_in_code c.args.self.now w.literal.new.self c.args.numbers.now.items c.reverse_from.new.numbers.items c.truncate.new.self.items c.push.new.self.items (c.len.result - c.fields_of.result) w.in-Lit.word
          w.in_ok-number-in-Lit.number (subst (λ (x : Cell). CanPut x c.args.self.now c.args.numbers.now.items) w.in-Lit.is c.requires) (λ i. long i - few i) c.reverse_from.ensures w.in_ok-number-in-Lit.ensures c.truncate.ensures.items
          (c.in_ok-push.ensures.items ∙ ap (λ (n : ℕ). c.truncate.new.self.items ++ n ∷ []) w.number-is)))
      | in-Con+in_ok-number-in-Con w ↦
          let few : c.fields_of.result ≡ w.in-Con.fields = c.fields_of.ensures ∙ ap fields_of w.in-Con.is in
          subst (λ (x : Cell). IsPut x c.args.self.now c.args.numbers.now.items c.match-cell.self c.push.new.self.items) (sym w.in-Con.is)
          (subst (λ (h : Heap). IsPut (cell.Con w.in-Con.datatype w.in-Con.con w.in-Con.fields) c.args.self.now c.args.numbers.now.items h c.push.new.self.items) (sym w.self-is)
          (put_construction_in_code c.args.self.now w.make.new.self c.args.numbers.now.items c.reverse_from.new.numbers.items _ c.truncate.new.self.items c.push.new.self.items (c.len.result - c.fields_of.result) w.in-Con.datatype w.in-Con.con
          w.in-Con.fields w.in_ok-number-in-Con.number (subst (λ (x : Cell). CanPut x c.args.self.now c.args.numbers.now.items) w.in-Con.is c.requires) (λ i. long i - few i) c.reverse_from.ensures
          (λ i. take (length (w.deref.ensures.value i) - (c.len.result - c.fields_of.result)) (drop (c.len.result - c.fields_of.result) (w.deref.ensures.value i))) w.in_ok-number-in-Con.ensures c.truncate.ensures.items
          (c.in_ok-push.ensures.items ∙ ap (λ (n : ℕ). c.truncate.new.self.items ++ n ∷ []) w.number-is)))
    ]
