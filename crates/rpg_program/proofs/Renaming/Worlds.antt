-- Each world by numbers has a world by names that agrees with it.
use Rattle.std.proofs.Common.{◌≡◌, ◌≢◌, ℕ, true, cond, ◌&&◌, List, [], ◌∷◌, Option, None, Some, refl, sym, ap, ◌∙◌, nat_cmp, Ordering}
use Rattle.std.proofs.lemmas.Bool.{ne_eqb}
use Rattle.std.specs.Cmp.{tied_then, unsigned_tied}
use Rattle.std.specs.FinMap as maps
use Rattle.std.specs.Ordering.{eq_by_cmp, is_eq}
use Rattle.rpg_program.proofs.Renaming.Operations.{entries_total, tied}
use Rattle.rpg_program.specs.Forms.{has_field}
use Rattle.rpg_program.specs.Naming.{Agree, IsRenaming}
use Rattle.rpg_program.specs.Values.{Value, entry_cmp}
use Rattle.rpg_program.specs.World.{World}
use Rattle.rpg_program.specs.declared.form.FieldForm.{FieldForm}

module _ {K : Type 0} {R : K → K → Ordering} {old : K → Option FieldForm} {new : ℕ → Option FieldForm} {at : K → ℕ} (r : IsRenaming R nat_cmp old new at)
    (back : ℕ → Option K) (knows : (k : K) → has_field (old k) ≡ true → back (at k) ≡ Some k) (gives : (n : ℕ) (k : K) → back n ≡ Some k → (at k ≡ n) × (has_field (old k) ≡ true)) where
  abbrev with_key : {X : Type 0} → Option K → X → List (K × X) → List (K × X)
  with_key None x es = es
  with_key (Some k) x es = (k, x) ∷ es

  -- ---- current entries

  abbrev pulled : {X : Type 0} → List (ℕ × X) → List (K × X)
  pulled [] = []
  pulled (e ∷ es) = with_key (back e.0) e.1 (pulled es)

  not_it : (k : K) (n : ℕ) → has_field (old k) ≡ true → back n ≡ None → at k ≢ n
  not_it k n there e h = let a = sym (knows k there) ∙ ap back h ∙ e in cc

  finds : {X : Type 0} (es : List (ℕ × X)) (k : K) → has_field (old k) ≡ true → maps.find R k (pulled es) ≡ maps.find nat_cmp (at k) es
  finds [] k there = refl
  finds (e ∷ es) k there = by_back (back e.0) refl (finds es k there)
    where
      by_back : (o : Option K) → back e.0 ≡ o → maps.find R k (pulled es) ≡ maps.find nat_cmp (at k) es → maps.find R k (with_key o e.1 (pulled es)) ≡ cond (eq_by_cmp nat_cmp (at k) e.0) (Some e.1) (maps.find nat_cmp (at k) es)
      by_back None f rest = rest ∙ ap (λ b. cond b (Some e.1) (maps.find nat_cmp (at k) es)) (sym (unsigned_tied (at k) e.0 ∙ ne_eqb (at k) e.0 (not_it k e.0 there f)))
      by_back (Some j) f rest =
          let g = gives e.0 j f in
          λ i. cond ((sym (r.apart k j g.1) ∙ ap (λ n. eq_by_cmp nat_cmp (at k) n) g.0) i) (Some e.1) (rest i)

  -- ---- values

  abbrev with_entry : Option K → ℕ → Value → List ((K × ℕ) × Value) → List ((K × ℕ) × Value)
  with_entry None n x es = es
  with_entry (Some k) n x es = ((k, n), x) ∷ es

  abbrev pulled_values : List ((ℕ × ℕ) × Value) → List ((K × ℕ) × Value)
  pulled_values [] = []
  pulled_values (e ∷ es) = with_entry (back e.0.0) e.0.1 e.1 (pulled_values es)

  finds_value : (es : List ((ℕ × ℕ) × Value)) (k : K) → has_field (old k) ≡ true → (n : ℕ) → maps.find (entry_cmp R) (k, n) (pulled_values es) ≡ maps.find (entry_cmp nat_cmp) (at k, n) es
  finds_value [] k there n = refl
  finds_value (e ∷ es) k there n = by_back (back e.0.0) refl (finds_value es k there n)
    where
      by_back : (o : Option K) → back e.0.0 ≡ o → maps.find (entry_cmp R) (k, n) (pulled_values es) ≡ maps.find (entry_cmp nat_cmp) (at k, n) es
          → maps.find (entry_cmp R) (k, n) (with_entry o e.0.1 e.1 (pulled_values es)) ≡ cond (eq_by_cmp (entry_cmp nat_cmp) (at k, n) e.0) (Some e.1) (maps.find (entry_cmp nat_cmp) (at k, n) es)
      by_back None f rest =
          let other = sym (tied_then (nat_cmp (at k) e.0.0) (nat_cmp n e.0.1)) ∙ ap (λ b. b && is_eq (nat_cmp n e.0.1)) (unsigned_tied (at k) e.0.0 ∙ ne_eqb (at k) e.0.0 (not_it k e.0.0 there f)) in
          rest ∙ ap (λ b. cond b (Some e.1) (maps.find (entry_cmp nat_cmp) (at k, n) es)) (sym other)
      by_back (Some j) f rest =
          let g = gives e.0.0 j f in
          λ i. cond ((sym (tied r k j n e.0.1 g.1) ∙ ap (λ m. eq_by_cmp (entry_cmp nat_cmp) (at k, n) (m, e.0.1)) g.0) i) (Some e.1) (rest i)

  -- the world by names
  pub by_names : World nat_cmp → World R
  by_names w = record {
    «data» = record {
      fields = record { values = maps.from_entries (pulled_values (maps.entries w.data.fields.values)); current = maps.from_entries (pulled (maps.entries w.data.fields.current)) };
      on = w.data.on;
      remainder = w.data.remainder;
    };
    paper = w.paper;
  }

  pub names_agree : (w : World nat_cmp) → Agree old at (by_names w) w
  unfolding by_names
  names_agree w = record {
    «data» = record {
      fields = record {
        values = λ k there n. maps.get-entries w.data.fields.values (at k, n) ∙ sym (finds_value (maps.entries w.data.fields.values) k there n) ∙ sym (maps.get-from_entries (entries_total r.old_total) _ (k, n));
        current = λ k there. maps.get-entries w.data.fields.current (at k) ∙ sym (finds (maps.entries w.data.fields.current) k there) ∙ sym (maps.get-from_entries r.old_total _ k);
      };
      on = refl;
      remainder = refl;
    };
    paper = refl;
  }
