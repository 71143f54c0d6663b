-- What a paper gains by a further line, and by further lines.
use Rattle.std.proofs.Common.{◌≡◌, option_map, ℕ, List, [], ◌∷◌, ◌++◌, Option, Some, None, refl, sym, ap, ◌∙◌, rules, append_assoc}
use Rattle.std.proofs.lemmas.List.{append-nil}
use Rattle.rpg_text.specs.Texts.{trimmed}
use Rattle.rpg_paper.specs.Paper.{Position, Placed, way, bytes_from, last_position_from, paper, last_position}
use Rattle.rpg_paper.specs.Form.{Standing, StandsAt, HasPrinted, way_of, FormLine, position_after, placed_after, form_bytes}

-- lines after lines add what they add to the paper that the first ones end
pub bytes_from-append : (last : Option Position) (xs ys : List Placed) → bytes_from last (xs ++ ys) ≡ bytes_from last xs ++ bytes_from (last_position_from last xs) ys
bytes_from-append last [] ys = refl
bytes_from-append last (x ∷ xs) ys =
    ap (λ bytes. way last x.at ++ trimmed x.text ++ bytes) (bytes_from-append (Some x.at) xs ys)
    ∙ sym (append_assoc (way last x.at ++ trimmed x.text) (bytes_from (Some x.at) xs) (bytes_from (last_position_from (Some x.at) xs) ys))

-- a form knows the way from the line placed last
pub way_is : (form : Standing) (previous : Option Position) (here : Position) → StandsAt form previous here → way previous here ≡ way_of form
way_is form None here s = search rules
way_is form (Some from) here s = search rules

joined : (sent old whole between text : List ℕ) → sent ++ old ≡ whole → sent ++ (old ++ between ++ text) ≡ whole ++ (between ++ text ++ [])
joined sent old whole between text e =
    rw (← e) (simp (append_assoc, append-nil))

-- the line placed last is the last of the list
pub end_from-append : (last : Option Position) (xs : List Placed) (x : Placed) → last_position_from last (xs ++ x ∷ []) ≡ Some x.at
end_from-append last [] x = refl
end_from-append last (y ∷ xs) x = end_from-append (Some y.at) xs x

-- the line that a form places is the next line of the paper
pub has_printed_more : (form new_form : Standing) (lines : List Placed) (here : Position) (text sent old new : List ℕ) → HasPrinted form lines here (sent ++ old) → StandsAt new_form (Some here) here → new ≡ old ++ way_of form ++ trimmed text → HasPrinted new_form (lines ++ record { at = here; text = text } ∷ []) here (sent ++ new)
has_printed_more form new_form lines here text sent old new has stands is =
    let line : Placed = record { at = here; text = text } in
    record {
      stands = rw (end_from-append None lines line) stands;
      printed =
          ap (λ bytes. sent ++ bytes) is
          ∙ joined sent old (paper lines) (way_of form) (trimmed text) has.printed
          ∙ ap (λ between. paper lines ++ (between ++ trimmed text ++ [])) (sym (way_is form (last_position lines) here has.stands))
          ∙ sym (bytes_from-append None lines (line ∷ []));
    }

-- counting pages from the line before gives the bytes of the positions
pub form_bytes_are : (previous : Option Position) (xs : List FormLine) → bytes_from previous (placed_after previous xs) ≡ form_bytes (option_map (λ p. p.line) previous) xs
form_bytes_are previous [] = refl
form_bytes_are previous (x ∷ xs) =
    let form : Standing = record { last = option_map (λ p. p.line) previous; begun = x.begun; line = x.line } in
    let stands : StandsAt form previous (position_after previous x) = record { last_line = refl; page = refl; present_line = refl } in
    ap (λ between. between ++ trimmed x.text ++ bytes_from (Some (position_after previous x)) (placed_after (Some (position_after previous x)) xs)) (way_is form previous (position_after previous x) stands)
    ∙ ap (λ bytes. way_of form ++ trimmed x.text ++ bytes) (form_bytes_are (Some (position_after previous x)) xs)
