-- A counted reader or writer as its callers see it.
use Rattle.std.specs.Prelude.{ℕ, ◌+◌, Result, Ok, Err}
use Rattle.rpg_files.specs.declared.counting.Counted.{Counted}
use Rattle.rpg_files.specs.declared.counting.LastLine.{LastLine}

-- the reader or the writer itself
abbrev pub device_of : {T : Type 0} → Counted T → T
device_of c = c.device

-- how many of its calls failed
abbrev pub faults_of : {T : Type 0} → Counted T → ℕ
faults_of c = c.faults

-- where the last line is that was read from it
abbrev pub last_of : {T : Type 0} → Counted T → LastLine
last_of c = c.last

-- one more if the call failed
abbrev pub faults_after : {X E : Type 0} → ℕ → Result X E → ℕ
faults_after n (Ok x) = n
faults_after n (Err e) = n + 1

-- how often a read or a write is tried: once, and again if it was interrupted, up to 999 more times
abbrev pub max_tries : ℕ
max_tries = 1000
