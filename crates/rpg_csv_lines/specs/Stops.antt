-- A conversion that ends early, and how often its reader and its writer have failed.
use Rattle.std.specs.Prelude.{◌≡◌, ℕ, ◌+◌}
use Rattle.rpg_csv_lines.specs.declared.stop.Stop.{Stop}
use Rattle.rpg_csv_lines.specs.declared.stop.Stop.TheVariants as stops

-- Before it the reader has failed r times and the writer w times, and after it p and q times: the device that it names failed once, and no other did.
abbrev pub IsCounted : ℕ → ℕ → ℕ → ℕ → Stop → Type 0
IsCounted r p w q (stops.Refused refusal) = (p ≡ r) × (q ≡ w)
IsCounted r p w q stops.Read = (p ≡ r + 1) × (q ≡ w)
IsCounted r p w q stops.Write = (p ≡ r) × (q ≡ w + 1)
IsCounted r p w q stops.NoMemory = (p ≡ r) × (q ≡ w)
