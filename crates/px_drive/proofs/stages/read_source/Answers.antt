use Rattle.std.proofs.Common.{ap, arith, length, subst}
use Rattle.px_lexer.specs.Tokens.{AreTokens}
use Rattle.px_types.specs.Checkings.{IsEnd}
use Rattle.px_drive.specs.Sources.{IsNumbered}
use Rattle.px_drive.proofs.Sources.{no_tokens, no_tree, no_numbers, no_types, no_descent}
use Rattle.px_drive.proofs.stages.read_source.Goals as goal

pub returns-in_err-found : goal.returns-in_err-found
returns-in_err-found c = rw (← c.as_slice-text.ensures) (no_tokens _ _ c.in_err-found.field-0.0 c.from_residual.ensures.1 c.in_err-found.ensures.fault)

pub returns-in_err-surface : goal.returns-in_err-surface
returns-in_err-surface c =
    let are_tokens : AreTokens c.as_slice-text.result.now c.as_slice.result.now = rw c.as_slice.ensures c.in_ok-found.ensures.ok in
    rw (← c.as_slice-text.ensures) (no_tree _ _ _ c.in_err-surface.field-0.0 are_tokens c.from_residual-in_err-surface.ensures.1 c.in_err-surface.ensures.fault)

pub resolve-requires-clause-small : goal.resolve-requires-clause-small
resolve-requires-clause-small c = omega (arith, c.in_ok-surface.ensures.fits, ap length c.as_slice-text.ensures, c.requires)

pub returns-in_err-raw : goal.returns-in_err-raw
returns-in_err-raw c =
    let are_tokens : AreTokens c.as_slice-text.result.now c.as_slice.result.now = rw c.as_slice.ensures c.in_ok-found.ensures.ok in
    rw (← c.as_slice-text.ensures)
    (no_numbers _ _ _ _ c.in_err-raw.field-0.0 are_tokens c.in_ok-surface.ensures.ok c.from_residual-in_err-raw.ensures.1 c.in_err-raw.ensures.fault)

pub returns-in_err-program : goal.returns-in_err-program
returns-in_err-program c =
    let numbered : IsNumbered c.args.bytes.now c.in_ok-raw.raw = record {
      tokens = c.as_slice.result.now;
      surface = c.in_ok-surface.surface;
      fits = c.requires;
      are_tokens = rw (← c.as_slice-text.ensures, c.as_slice.ensures) c.in_ok-found.ensures.ok;
      is_tree = rw (← c.as_slice-text.ensures) c.in_ok-surface.ensures.ok;
      is_numbering = c.in_ok-raw.ensures.ok;
    } in
    no_types c.args.bytes.now c.in_ok-raw.raw _ c.in_err-program.field-0.0 numbered c.from_residual-in_err-program.ensures.1 (λ kind at is. subst (IsEnd c.in_ok-raw.raw) is c.in_err-program.ensures.fault)

pub returns-in_err-checked : goal.returns-in_err-checked
returns-in_err-checked c =
    let numbered : IsNumbered c.args.bytes.now c.in_ok-raw.raw = record {
      tokens = c.as_slice.result.now;
      surface = c.in_ok-surface.surface;
      fits = c.requires;
      are_tokens = rw (← c.as_slice-text.ensures, c.as_slice.ensures) c.in_ok-found.ensures.ok;
      is_tree = rw (← c.as_slice-text.ensures) c.in_ok-surface.ensures.ok;
      is_numbering = c.in_ok-raw.ensures.ok;
    } in
    no_descent c.args.bytes.now c.in_ok-raw.raw c.in_ok-program.program _ c.in_err-checked.field-0.0 numbered c.in_ok-program.ensures.ok c.from_residual-in_err-checked.ensures.1 c.in_err-checked.ensures.first

pub returns : goal.returns
returns c = record {
  raw = c.in_ok-raw.raw;
  is_numbered = record {
    tokens = c.as_slice.result.now;
    surface = c.in_ok-surface.surface;
    fits = c.requires;
    are_tokens = rw (← c.as_slice-text.ensures, c.as_slice.ensures) c.in_ok-found.ensures.ok;
    is_tree = rw (← c.as_slice-text.ensures) c.in_ok-surface.ensures.ok;
    is_numbering = c.in_ok-raw.ensures.ok;
  };
  is_typed = rw c.in_ok-checked.ensures.same c.in_ok-program.ensures.ok;
  descends = rw c.in_ok-checked.ensures.same c.in_ok-checked.ensures.descends;
}
