-- How codes of faults are printed.
use Rattle.std.specs.Prelude.{ℕ, List, codes}
use Rattle.rpg_object_format.specs.declared.fault.Code.{Code}
use Rattle.rpg_object_format.specs.declared.fault.Code.TheVariants.{NoObject, Version, CutShort, LeftOver, NotAllowed, Unused, PastLimit}

-- a code as it is printed
abbrev pub code_text : Code → List ℕ
code_text NoObject = codes "B1"
code_text Version = codes "B2"
code_text CutShort = codes "B3"
code_text LeftOver = codes "B4"
code_text NotAllowed = codes "B5"
code_text Unused = codes "B6"
code_text PastLimit = codes "B7"
