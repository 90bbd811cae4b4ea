use Rattle.std.proofs.Common.{ℕ, ◌^◌, ◌<◌, Decides, rules}
use Rattle.std.specs.List.{All}
use Rattle.std.proofs.lemmas.List.Elements.{All-from_get_or}
use Rattle.recording.proofs.Bits.{within_small, small_within}
use Rattle.checker.proofs.check.no_stray.Goals as goal

pub returns : goal.returns
returns c =
    let small = λ (row : ℕ). row < 2 ^ c.args.variables in
    let rows = c.args.rows.now in
    let d : Decides c.all.result (All small rows) = search rules in
    (λ e. within_small c.args.variables rows (λ t h. d.0 e t 0 h), λ h. d.1 (All-from_get_or small rows 0 (small_within c.args.variables rows h)))
