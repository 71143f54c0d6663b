-- What becomes of a print.
use Rattle.std.specs.Prelude.{◌≡◌, ◌==◌, ◌^◌, Bool, true, false, ℕ, ◌+◌, ◌-◌, ◌*◌, ◌<◌, ◌≤◌, nat_lt, if◌then◌else◌, List, [], ◌∷◌, ◌++◌, length, drop, Option, None, Some, Result, Ok, Err, IfSome, MatchResult, ⊤}
use Rattle.std.specs.Io.KnownBytes.{Appends}
use Rattle.std.specs.List.{All, flat_map}
use Rattle.rpg_files.specs.Counting.{device_of, faults_of}
use Rattle.rpg_files.specs.Sending.{AppendsPrefix}
use Rattle.rpg_pdf.specs.Contents.{page_fault}
use Rattle.rpg_pdf.specs.Made.{place_of}
use Rattle.rpg_pdf.specs.Objects.{entry, first_bytes, first_objects, front, pdf, starts}
use Rattle.rpg_pdf.specs.Pages.{pages}
use Rattle.rpg_pdf.specs.declared.state.PageFault.{PageFault}
use Rattle.rpg_pdf.specs.declared.state.PaperFault.{PaperFault}
use Rattle.rpg_pdf.specs.declared.state.PaperFault.TheVariants as faults
use Rattle.rpg_pdf.specs.declared.state.Sheet.{Sheet}
use Rattle.rpg_pdf.specs.declared.state.Made.{Made}
use Rattle.rpg_pdf.specs.declared.state.Press.{Press}

-- the most pages of a print
abbrev pub most_pages : ℕ
most_pages = 99999

-- the most bytes of a PDF
abbrev pub most_bytes : ℕ
most_bytes = 9999999999

-- the fault of a page that this many others come before, or what comes after the page
abbrev pub page_or : (before : ℕ) → Option PageFault → Option PaperFault → Option PaperFault
page_or before None later = later
page_or before (Some fault) later = Some (faults.Page (before + 1) fault)

-- the first fault of pages that this many others come before
abbrev pub pages_fault : Sheet → ℕ → List (List ℕ) → Option PaperFault
pages_fault s before [] = None
pages_fault s before (page ∷ more) = if nat_lt before most_pages then page_or before (page_fault s page) (pages_fault s (before + 1) more) else Some faults.Pages

-- a fault of pages is their first one, and `Size` is that of a PDF that is too large; the others are those of a device or of memory
abbrev pub IsFault : Sheet → List (List ℕ) → PaperFault → Type 0
IsFault s all (faults.Page number fault) = pages_fault s 0 all ≡ Some (faults.Page number fault)
IsFault s all faults.Pages = pages_fault s 0 all ≡ Some faults.Pages
IsFault s all faults.Size = most_bytes < length (pdf s all)
IsFault s all faults.Read = ⊤
IsFault s all faults.Write = ⊤
IsFault s all faults.NoMemory = ⊤

-- the PDF of pages was written, or this is why not, and a prefix of it was
abbrev pub IsPaper : Sheet → List (List ℕ) → Option (List ℕ) → Option (List ℕ) → Result ℕ PaperFault → Type 0
IsPaper s all before after (Ok count) = (pages_fault s 0 all ≡ None) × (count ≡ length all) × Appends before after (pdf s all)
IsPaper s all before after (Err fault) = IsFault s all fault × AppendsPrefix before after (pdf s all)

-- ---- what failed

-- how often the reader and the writer failed, and whether memory ran out
pub record Failures : Type 0 where
  pub reads : ℕ
  pub writes : ℕ
  pub is_short : Bool

abbrev pub failures_of : {R W : Type 0} → Press R W → Failures
failures_of press = record { reads = faults_of press.reader; writes = faults_of press.writer; is_short = press.is_short }

-- once more what a fault names, and nothing else
abbrev pub failures_after : {X : Type 0} → Failures → Result X PaperFault → Failures
failures_after f (Ok x) = f
failures_after f (Err (faults.Page number fault)) = f
failures_after f (Err faults.Pages) = f
failures_after f (Err faults.Size) = f
failures_after f (Err faults.Read) = record { reads = f.reads + 1; writes = f.writes; is_short = f.is_short }
failures_after f (Err faults.Write) = record { reads = f.reads; writes = f.writes + 1; is_short = f.is_short }
failures_after f (Err faults.NoMemory) = record { reads = f.reads; writes = f.writes; is_short = true }

-- another failure can be counted
abbrev pub CanFail : {R W : Type 0} → Press R W → Type 0
CanFail press = (faults_of press.reader < 2 ^ 64 - 1) × (faults_of press.writer < 2 ^ 64 - 1)

-- ---- a press

-- the bytes that its reader has left
abbrev pub known_print : {R W : Type 0} → (R → Option (List ℕ)) → Press R W → Option (List ℕ)
known_print remaining press = remaining (device_of press.reader)

-- the bytes that its writer has
abbrev pub written_by : {R W : Type 0} → (W → Option (List ℕ)) → Press R W → Option (List ℕ)
written_by contents press = contents (device_of press.writer)

-- nothing was made yet
pub record IsFresh {R W : Type 0} (s : Sheet) (press : Press R W) : Type 0 where
  pub sheet : press.sheet ≡ s
  pub page : press.page.items ≡ []
  pub number : press.number ≡ 0
  pub out : press.made.out.items ≡ []
  pub entries : press.made.entries.items ≡ []
  pub at : press.made.at ≡ 0

-- all that was made is written, and nothing else has changed
pub record HasSent {R W : Type 0} (contents : W → Option (List ℕ)) (old new : Press R W) : Type 0 where
  pub written : Appends (written_by contents old) (written_by contents new) old.made.out.items
  pub at : new.made.at ≡ place_of old.made
  pub out : new.made.out.items ≡ []
  pub entries : new.made.entries ≡ old.made.entries
  pub reader : new.reader ≡ old.reader
  pub sheet : new.sheet ≡ old.sheet
  pub page : new.page ≡ old.page
  pub number : new.number ≡ old.number

-- a prefix of what was made is written
pub record IsUnsent {R W : Type 0} (contents : W → Option (List ℕ)) (old new : Press R W) (fault : PaperFault) : Type 0 where
  pub written : AppendsPrefix (written_by contents old) (written_by contents new) old.made.out.items
  pub is_fault : (s : Sheet) (all : List (List ℕ)) → place_of old.made ≤ length (pdf s all) → IsFault s all fault

-- the file up to these pages was made, and the entries of its objects after the catalog
pub record Laid (s : Sheet) (before now : Option (List ℕ)) (done : List (List ℕ)) (made : Made) : Type 0 where
  pub sent : List ℕ
  pub written : Appends before now sent
  pub at : made.at ≡ length sent
  pub whole : sent ++ made.out.items ≡ front s done
  pub entries : made.entries.items ≡ flat_map entry (drop 1 (starts (length first_bytes) (first_objects s done)))

-- of all pages some were made, and these are left
pub record Reaches {R W : Type 0} (s : Sheet) (contents : W → Option (List ℕ)) (before : Option (List ℕ)) (all left : List (List ℕ)) (press : Press R W) : Type 0 where
  pub done : List (List ℕ)
  pub parts : all ≡ done ++ left
  pub faults : pages_fault s 0 all ≡ pages_fault s (length done) left
  pub number : press.number ≡ length done
  pub laid : Laid s before (written_by contents press) done press.made
  pub sheet : press.sheet ≡ s

-- of a print these bytes are left, after those of the page that was begun
pub record Reading {R W : Type 0} (s : Sheet) (contents : W → Option (List ℕ)) (before : Option (List ℕ)) (print rest : List ℕ) (press : Press R W) : Type 0 where
  pub reached : Reaches s contents before (pages print) (pages (press.page.items ++ rest)) press
  pub plain : All (λ b. (b == 12) ≡ false) press.page.items

-- this is why not all pages are made, and a prefix of the PDF was written
pub record IsStopped {R W : Type 0} (s : Sheet) (contents : W → Option (List ℕ)) (before : Option (List ℕ)) (all : List (List ℕ)) (press : Press R W) (fault : PaperFault) : Type 0 where
  pub is_fault : IsFault s all fault
  pub written : AppendsPrefix before (written_by contents press) (pdf s all)

-- the most bytes that may be left of a print
abbrev pub bytes_left : {R W : Type 0} → Press R W → ℕ
bytes_left press = (most_pages - press.number) * 1048577 + (1048577 - length press.page.items)

-- ---- calls of a press

-- the page that was begun was made and written
abbrev pub EndsPage : {R W X : Type 0} → (W → Option (List ℕ)) → (old new : Press R W) → Result X PaperFault → Type 0
EndsPage contents old new r =
    (s : Sheet) (before : Option (List ℕ)) (all later : List (List ℕ)) → Reaches s contents before all (old.page.items ∷ later) old
    → MatchResult r (λ _. Reaches s contents before all later new) (IsStopped s contents before all new)

-- these bytes of the print were taken
abbrev pub TakesBytes : {R W X : Type 0} → (W → Option (List ℕ)) → List ℕ → (old new : Press R W) → Result X PaperFault → Type 0
TakesBytes contents bytes old new r =
    (s : Sheet) (before : Option (List ℕ)) (print rest : List ℕ) → Reading s contents before print (bytes ++ rest) old
    → MatchResult r (λ _. Reading s contents before print rest new) (IsStopped s contents before (pages print) new)

-- all bytes of the print were
abbrev pub ReadsAll : {R W X : Type 0} → (R → Option (List ℕ)) → (W → Option (List ℕ)) → (old new : Press R W) → Result X PaperFault → Type 0
ReadsAll remaining contents old new r =
    (s : Sheet) (before : Option (List ℕ)) (print : List ℕ) → known_print remaining old ≡ Some print → Reading s contents before print print old
    → MatchResult r (λ _. Reading s contents before print [] new) (IsStopped s contents before (pages print) new)

-- the PDF was ended
abbrev pub Finishes : {R W : Type 0} → (W → Option (List ℕ)) → (old new : Press R W) → Result ℕ PaperFault → Type 0
Finishes contents old new r = (s : Sheet) (before : Option (List ℕ)) (print : List ℕ) → Reading s contents before print [] old → IsPaper s (pages print) before (written_by contents new) r

-- the PDF of the reader's bytes was written, if they are known
abbrev pub HasPrinted : {R W : Type 0} → (R → Option (List ℕ)) → (W → Option (List ℕ)) → (old new : Press R W) → Result ℕ PaperFault → Type 0
HasPrinted remaining contents old new r = IfSome (known_print remaining old) (λ print. IsPaper old.sheet (pages print) (written_by contents old) (written_by contents new) r)
