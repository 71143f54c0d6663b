-- The format of the header: the numbers before the tables.
use Rattle.std.specs.Prelude.{ℕ, ◌-◌, ◌==◌, if◌then◌else◌, List, [], ◌∷◌, ◌++◌, Option, Some, None, Result, Ok, Err}
use Rattle.rpg_object_format.specs.declared.fault.Code.{Code}
use Rattle.rpg_object_format.specs.declared.fault.Code.TheVariants as faults
use Rattle.rpg_object_format.specs.Format.{Format, two_bytes, pair, row}
use Rattle.rpg_object_format.specs.Numbers.{choice, count, number_where}
use Rattle.rpg_paper.specs.Paper.{standard_page}
use Rattle.rpg_paper.specs.declared.form.Page.{Page}
use Rattle.rpg_program.specs.Object.{has_page, has_secondary, version_number}
use Rattle.rpg_program.specs.declared.input.InputFile.{InputFile}
use Rattle.rpg_program.specs.declared.input.InputFile.TheVariants.{Primary, Secondary}
use Rattle.rpg_program.specs.declared.rows.Version.{Version}
use Rattle.rpg_program.specs.declared.rows.Version.TheVariants as versions
use Rattle.rpg_object_format.specs.Indicators.{indicator_number}
use Rattle.rpg_object_format.specs.Shapes.{no_number, unused_number, where_used}
use Rattle.rpg_text.specs.Texts.{is_between}
use Rattle.rpg_object.specs.declared.header.Counts.{Counts}
use Rattle.rpg_object.specs.declared.header.Header.{Header}
use Rattle.rpg_object.specs.declared.header.Settings.{Settings}

-- the version with that number
abbrev pub version_of : ℕ → Result Version Code
version_of n = if n == 1 then Ok versions.One else (if n == 2 then Ok versions.Two else (if n == 3 then Ok versions.Three else Err faults.Version))

-- 0 for none
abbrev pub overflow_of : ℕ → Result (Option ℕ) Code
overflow_of n = if n == 0 then Ok None else (if is_between 112 119 n then Ok (Some n) else Err faults.NotAllowed)

-- allowance, lengths of records, lines and disk records, overflow indicator
unfoldable pub settings : Format Settings
settings = row
    (λ p. record { allowance = p.0; record_length = p.1.0; printer_length = p.1.1.0; disk_length = p.1.1.1.0; overflow = p.1.1.1.1 })
    (λ s. (s.allowance, (s.record_length, (s.printer_length, (s.disk_length, s.overflow)))))
    (pair (number_where (is_between 1 65535)) (λ allowance.
    pair (number_where (is_between 1 9999)) (λ record_length.
    pair (number_where (is_between 0 132)) (λ printer_length.
    pair (number_where (is_between 0 9999)) (λ disk_length.
    two_bytes overflow_of indicator_number)))))

-- the most instructions of a program
abbrev pub most_instructions : ℕ
most_instructions = 8192

-- fields, types, lines, detail instructions, total instructions, subroutines
unfoldable pub counts : Format Counts
counts = row
    (λ p. record { fields = p.0; types = p.1.0; lines = p.1.1.0; detail = p.1.1.1.0; total = p.1.1.1.1.0; subroutines = p.1.1.1.1.1 })
    (λ c. (c.fields, (c.types, (c.lines, (c.detail, (c.total, c.subroutines))))))
    (pair (count 4000) (λ f. pair (count 200) (λ t. pair (count 1000) (λ l.
    pair (count most_instructions) (λ d. pair (count (most_instructions - d)) (λ n. count 100))))))

-- 0 for none; in version 1 there is none
abbrev pub secondary_length : Version → Format ℕ
secondary_length v = where_used (has_secondary v) (number_where (is_between 0 9999)) 0 unused_number

-- ---- additions of version 3; the other versions write no byte for them

-- lines, overflow line
unfoldable pub page_numbers : Format Page
page_numbers = row
    (λ p. record { lines = p.0; overflow_line = p.1 })
    (λ page. (page.lines, page.overflow_line))
    (pair (number_where (is_between 3 112)) (λ lines. number_where (is_between 1 lines)))

-- the form's page
abbrev pub page_format : Version → Format Page
page_format v = where_used (has_page v) page_numbers standard_page no_number

-- 0 if no file ends the job alone
abbrev pub ending_number : Option InputFile → ℕ
ending_number None = 0
ending_number (Some Primary) = 1
ending_number (Some Secondary) = 2

-- the primary ends the job alone only where there is a secondary of that length
abbrev pub endings : ℕ → List (Option InputFile)
endings secondary_length = if secondary_length == 0 then None ∷ [] else None ∷ Some Primary ∷ Some Secondary ∷ []

-- the file that ends the job alone
abbrev pub ends_format : Version → ℕ → Format (Option InputFile)
ends_format v secondary_length = where_used (has_page v) (two_bytes (choice (endings secondary_length) ending_number) ending_number) None no_number

-- the bytes of the page and the ending file
abbrev pub page_text : Header → List ℕ
page_text h = (page_format h.version).spelling h.page ++ (ends_format h.version h.secondary_length).spelling h.ends

-- version, settings, counts, length of secondary records, page, ending file
unfoldable pub header_format : Format Header
header_format = row
    (λ p. record { version = p.0; settings = p.1.0; counts = p.1.1.0; secondary_length = p.1.1.1.0; page = p.1.1.1.1.0; ends = p.1.1.1.1.1 })
    (λ h. (h.version, (h.settings, (h.counts, (h.secondary_length, (h.page, h.ends))))))
    (pair (two_bytes version_of version_number) (λ v. pair settings (λ s. pair counts (λ c.
    pair (secondary_length v) (λ n. pair (page_format v) (λ page. ends_format v n))))))
