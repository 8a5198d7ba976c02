use Rattle.std.proofs.Common.{ℕ, ◌^◌, ◌<◌, get_or}
use Rattle.policy.specs.Fields.{widths}
use Rattle.policy.proofs.fields.Header.fits.Given as goal

-- Each number before this field fits its width.
abbrev pub invariant-loop-field : goal.invariant-loop-field
invariant-loop-field l = (k : ℕ) → k < l.field → get_or l.self.numbers k 0 < 2 ^ get_or widths k 0
