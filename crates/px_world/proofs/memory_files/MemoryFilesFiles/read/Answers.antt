use Rattle.std.proofs.Common.{◌≡◌, ◌-◌, ◌∙◌, ap, arith, drop, length, length-drop}
use Rattle.px_world.specs.Texts.{bytes_at}
use Rattle.px_world.proofs.Loops.{Consumes-next}
use Rattle.px_world.proofs.memory_files.MemoryFilesFiles.read.Goals as goal

pub overflow_add-self : goal.overflow_add-self
overflow_add-self c =
    let bytes = bytes_at c.deref-2.result.now c.in-Some.place.text in
    let long : length c.rest_of-rest.result.now ≡ length bytes - c.in-Some.place.at =
    ap length c.rest_of-rest.ensures.rest ∙ length-drop c.in-Some.place.at bytes in
    omega (arith, long, c.rest_of-rest.ensures.fits, c.copy_piece-count.ensures.count)

pub returns-clause-bytes : goal.returns-clause-bytes
returns-clause-bytes c =
    let bytes = bytes_at c.args.self.now.texts.items c.in-Some.place.text in
    let rest : c.rest_of-rest.result.now ≡ drop c.in-Some.place.at bytes = rw c.deref-2.ensures.value at c.rest_of-rest.ensures.rest in
    rw c.in-Some.is (
    Consumes-next bytes c.rest_of-rest.result.now c.in-Some.place.at c.args.self.now.piece c.copy_piece-count.result c.args.buf.now c.copy_piece-count.new.buf
    c.args.self.now.some (omega arith) rest c.copy_piece-count.ensures.count c.copy_piece-count.ensures.front)
