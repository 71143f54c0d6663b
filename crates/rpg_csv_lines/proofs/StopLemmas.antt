-- Faults of one device, beside another that didn't fail.
use Rattle.std.proofs.Common.{◌≡◌, ℕ, ◌+◌, arith, sym, ◌∙◌}
use Rattle.rpg_csv_lines.specs.Stops.{IsCounted}
use Rattle.rpg_csv_lines.specs.declared.stop.Stop.{Stop}
use Rattle.rpg_csv_lines.specs.declared.stop.Stop.TheVariants as stops

-- the reader's
pub read_counted : (a r p b w : ℕ) (s : Stop) → r ≡ a → w ≡ b → IsCounted r p 0 0 s → IsCounted a p b w s
read_counted a r p b w (stops.Refused x) e f h = (h.0 ∙ e, f)
read_counted a r p b w stops.Read e f h = (omega (arith, e, h.0), f)
read_counted a r p b w stops.Write e f h = absurd (omega (arith, h.1))
read_counted a r p b w stops.NoMemory e f h = (h.0 ∙ e, f)

-- the writer's
pub write_counted : (a r b w q : ℕ) (s : Stop) → r ≡ a → w ≡ b → IsCounted 0 0 w q s → IsCounted a r b q s
write_counted a r b w q (stops.Refused x) e f h = (e, h.1 ∙ f)
write_counted a r b w q stops.Read e f h = absurd (omega (arith, h.0))
write_counted a r b w q stops.Write e f h = (e, omega (arith, f, h.1))
write_counted a r b w q stops.NoMemory e f h = (e, h.1 ∙ f)

-- of neither
pub none_counted : (a r b w : ℕ) (s : Stop) → r ≡ a → w ≡ b → IsCounted 0 0 0 0 s → IsCounted a r b w s
none_counted a r b w (stops.Refused x) e f h = (e, f)
none_counted a r b w stops.Read e f h = absurd (omega (arith, h.0))
none_counted a r b w stops.Write e f h = absurd (omega (arith, h.1))
none_counted a r b w stops.NoMemory e f h = (e, f)
