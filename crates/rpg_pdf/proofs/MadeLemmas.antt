-- Objects, one after another.
use Rattle.std.proofs.Common.{◌≡◌, ℕ, ◌+◌, List, [], ◌∷◌, ◌++◌, length, sym, ap, ap₂, ◌∙◌, arith, append_assoc, append-nil, length-append, codes, Option}
use Rattle.std.specs.List.{concat, flat_map}
use Rattle.rpg_pdf.specs.Contents.{contents, page_fault}
use Rattle.rpg_pdf.specs.Made.{AddsPage, place_of}
use Rattle.rpg_pdf.specs.Objects.{contents_object, ending, entry, kids, page_number, page_object, starts, tree}
use Rattle.rpg_pdf.specs.Texts.{filled}
use Rattle.rpg_pdf.specs.declared.state.PageFault.{PageFault}
use Rattle.rpg_pdf.specs.declared.state.Sheet.{Sheet}
use Rattle.rpg_pdf.specs.declared.state.Made.{Made}

pub joined_three : (p q r t : List ℕ) → p ++ q ++ r ++ t ≡ p ++ (q ++ r ++ t)
joined_three p q r t = ap (λ l. l ++ t) (append_assoc p q r) ∙ append_assoc p (q ++ r) t

pub contents_made : (i number size : ℕ) (text old a b d : List ℕ) → number ≡ page_number i → size ≡ length text → a ≡ old ++ filled (codes "# 0 obj\n<</Length #>>\nstream\n") ((number + 1) ∷ size ∷ []) → b ≡ a ++ text
    → d ≡ b ++ codes "endstream\nendobj\n" → d ≡ old ++ contents_object i text
unfolding contents_object
contents_made i number size text old a b d en es ea eb ed =
    let end : List ℕ = codes "endstream\nendobj\n" in
    ed ∙ ap (λ t. t ++ end) (eb ∙ ap (λ t. t ++ text) ea) ∙ joined_three old (filled (codes "# 0 obj\n<</Length #>>\nstream\n") ((number + 1) ∷ size ∷ [])) text end
    ∙ ap₂ (λ n k. old ++ (filled (codes "# 0 obj\n<</Length #>>\nstream\n") ((n + 1) ∷ k ∷ []) ++ text ++ end)) en es

pub tree_made : (s : Sheet) (n page number width height : ℕ) (old a b d : List ℕ) → number ≡ n → page ≡ n → width ≡ s.width → height ≡ s.height → a ≡ old ++ filled (codes "# 0 obj\n<</Type/Pages/Count #/Kids[") (2 ∷ number ∷ [])
    → b ≡ a ++ kids page → d ≡ b ++ filled (codes "]/MediaBox[0 0 $ $]/Resources<</Font<</F 3 0 R>>>>>>\nendobj\n") (width ∷ height ∷ []) → d ≡ old ++ tree s n
unfolding tree
tree_made s n page number width height old a b d en ep ew eh ea eb ed =
    let head : List ℕ = filled (codes "# 0 obj\n<</Type/Pages/Count #/Kids[") (2 ∷ n ∷ []) in
    let end : List ℕ = filled (codes "]/MediaBox[0 0 $ $]/Resources<</Font<</F 3 0 R>>>>>>\nendobj\n") (s.width ∷ s.height ∷ []) in
    let front : b ≡ old ++ head ++ kids n = eb ∙ ap₂ (λ t k. t ++ kids k) (ea ∙ ap (λ k. old ++ filled (codes "# 0 obj\n<</Type/Pages/Count #/Kids[") (2 ∷ k ∷ [])) en) ep in
    ed ∙ ap₂ (λ w h. b ++ filled (codes "]/MediaBox[0 0 $ $]/Resources<</Font<</F 3 0 R>>>>>>\nendobj\n") (w ∷ h ∷ [])) ew eh ∙ ap (λ t. t ++ end) front ∙ joined_three old head (kids n) end

table_made : (count tree_place : ℕ) → filled (codes "xref\n0 #\n0000000000 65535 f \n@ 00000 n \n@ 00000 n \n") (count ∷ 15 ∷ tree_place ∷ []) ≡ filled (codes "xref\n0 #\n0000000000 65535 f \n") (count ∷ []) ++ (entry 15 ++ entry tree_place)
unfolding filled
table_made count tree_place = simp append_assoc

pub ending_made : (at count entries start tree_place first : ℕ) (places base old a e f others : List ℕ) → old ≡ base → start ≡ at + length old → tree_place ≡ first → count ≡ entries → others ≡ flat_map entry places
    → a ≡ old ++ filled (codes "xref\n0 #\n0000000000 65535 f \n@ 00000 n \n@ 00000 n \n") (count ∷ 15 ∷ tree_place ∷ []) → e ≡ a ++ others
    → f ≡ e ++ filled (codes "trailer\n<</Size #/Root 1 0 R>>\nstartxref\n#\n%%EOF\n") (count ∷ start ∷ []) → f ≡ base ++ ending entries (at + length base) (15 ∷ first ∷ places)
unfolding ending
ending_made at count entries start tree_place first places base old a e f others from begins root same is ea ee ef =
    let head : List ℕ = filled (codes "xref\n0 #\n0000000000 65535 f \n") (count ∷ []) in
    let end : List ℕ = filled (codes "trailer\n<</Size #/Root 1 0 R>>\nstartxref\n#\n%%EOF\n") (count ∷ start ∷ []) in
    ef ∙ ap (λ t. t ++ end) (ee ∙ ap₂ (λ t o. t ++ o) (ea ∙ ap (λ t. old ++ t) (table_made count tree_place)) is) ∙ regrouped old head (entry 15) (entry tree_place) (flat_map entry places) end
    ∙ ap₂ (λ k t. old ++ ending k start (15 ∷ t ∷ places)) same root ∙ ap₂ (λ t k. t ++ ending entries k (15 ∷ first ∷ places)) from (begins ∙ ap (λ t. at + length t) from)
  where
    regrouped : (p h x y q t : List ℕ) → p ++ (h ++ (x ++ y)) ++ q ++ t ≡ p ++ (h ++ (x ++ (y ++ q)) ++ t)
    regrouped p h x y q t = simp append_assoc

pub adds_page : (s : Sheet) (n : ℕ) (page : List ℕ) (old new : Made) (fault : Option PageFault) (text out entries : List ℕ) (number first second : ℕ) → number ≡ page_number n → fault ≡ page_fault s page → text ≡ contents s page → first ≡ place_of old
    → entries ≡ old.entries.items ++ entry first → out ≡ old.out.items ++ filled (codes "# 0 obj\n<</Type/Page/Parent 2 0 R/Contents # 0 R>>\nendobj\n") (number ∷ (number + 1) ∷ [])
    → second ≡ old.at + length out → new.entries.items ≡ entries ++ entry second → new.out.items ≡ out ++ contents_object n text → new.at ≡ old.at → AddsPage s n page old new fault
unfolding starts page_object
adds_page s n page old new fault text out entries number first second ec ef et e1 ee eo e2 en eo' at =
    let x : List ℕ = page_object n in
    let y : List ℕ = contents_object n (contents s page) in
    let made : out ≡ old.out.items ++ x = eo ∙ ap (λ n. old.out.items ++ filled (codes "# 0 obj\n<</Type/Page/Parent 2 0 R/Contents # 0 R>>\nendobj\n") (n ∷ (n + 1) ∷ [])) ec in
    let place : second ≡ place_of old + length x = omega (arith, e2, ap length made, length-append old.out.items x) in
    let out' : new.out.items ≡ old.out.items ++ concat (x ∷ y ∷ []) = eo' ∙ ap₂ (λ t u. t ++ contents_object n u) made et ∙ append_assoc old.out.items x y ∙ ap (λ t. old.out.items ++ (x ++ t)) (sym (append-nil y)) in
    let entries' : new.entries.items ≡ old.entries.items ++ flat_map entry (starts (place_of old) (x ∷ y ∷ [])) =
    en ∙ ap₂ (λ t k. t ++ entry k) (ee ∙ ap (λ k. old.entries.items ++ entry k) e1) place ∙ append_assoc old.entries.items (entry (place_of old)) (entry (place_of old + length x))
    ∙ ap (λ t. old.entries.items ++ (entry (place_of old) ++ t)) (sym (append-nil (entry (place_of old + length x)))) in
    record { fault_is = ef; objects = λ none. record { out = out'; entries = entries'; at = at } }
