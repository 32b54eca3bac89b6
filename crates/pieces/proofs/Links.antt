-- Links to anchors: the pieces have as many as the whole, whichever are counted.
use Rattle.std.proofs.Common.{◌≡◌, ℕ, ◌+◌, ◌-◌, ◌<◌, Bool, true, false, cond, List, [], ◌∷◌, ◌++◌, map, take, drop, Some, None, sum_by, count_by, filter, Option, sym, refl, ap, ◌∙◌, arith, take-add}
use Rattle.std.specs.List.{flat_map}
use Rattle.std.proofs.lemmas.List.{drop-drop}
use Rattle.std.proofs.lemmas.List.Sums.{sum_by-cons, sum_by-append}
use Rattle.std.proofs.lemmas.Bool.{cond-true, cond-false}
use Rattle.std.proofs.lemmas.Bool.Decides.{nat_tests}
use Rattle.cutting.specs.Cutting.{Cutting}
use Rattle.fields.specs.Arrays.{present}
use Rattle.markbase.specs.Values.{Mark, Base, Contents}
use Rattle.pieces.specs.Pieces.{in_run, renumbered, row_part, piece, pieces, Formed}
use Rattle.pieces.specs.Keeping.{mark_anchors, base_anchors, links}
use Rattle.pieces.proofs.Shapes.{whole_piece}
use Rattle.pieces.proofs.Together.{runs_summed}

module _ {X : Type 0} where
  sum_kept : (f : X → ℕ) (p : X → Bool) (xs : List X) → sum_by f (filter p xs) ≡ sum_by (λ x. cond (p x) (f x) 0) xs
  sum_kept f p [] = refl
  sum_kept f p (x ∷ xs) = go (p x) refl (sum_kept f p xs)
    where
      go : (t : Bool) → p x ≡ t → sum_by f (filter p xs) ≡ sum_by (λ x. cond (p x) (f x) 0) xs → sum_by f (cond t (x ∷ filter p xs) (filter p xs)) ≡ sum_by (λ x. cond (p x) (f x) 0) (x ∷ xs)
      go true e rest = omega (arith, sum_by-cons f x (filter p xs), sum_by-cons (λ y. cond (p y) (f y) 0) x xs, cond-true (p x) (f x) 0 e)
      go false e rest = omega (arith, sum_by-cons (λ y. cond (p y) (f y) 0) x xs, cond-false (p x) (f x) 0 e)

  sum_both : (f g h : X → ℕ) → ((x : X) → f x + g x ≡ h x) → (xs : List X) → sum_by f xs + sum_by g xs ≡ sum_by h xs
  sum_both f g h e [] = refl
  sum_both f g h e (x ∷ xs) = omega (arith, sum_by-cons f x xs, sum_by-cons g x xs, sum_by-cons h x xs, sum_both f g h e xs, e x)

  sum_map : {Y : Type 0} (f : Y → ℕ) (g : X → Y) (xs : List X) → sum_by f (map g xs) ≡ sum_by (λ x. f (g x)) xs
  sum_map f g [] = refl
  sum_map f g (x ∷ xs) = omega (arith, sum_by-cons f (g x) (map g xs), sum_by-cons (λ y. f (g y)) x xs, sum_map f g xs)

present_append : (os us : List (Option ℕ)) → present (os ++ us) ≡ present os ++ present us
present_append [] us = refl
present_append (Some v ∷ os) us = ap (λ vs. v ∷ vs) (present_append os us)
present_append (None ∷ os) us = present_append os us

module _ (test : ℕ → Bool) where
  pub links_append : (os us : List (Option ℕ)) → links test (os ++ us) ≡ links test os + links test us
  links_append os us = ap (count_by test) (present_append os us) ∙ sum_by-append (λ v. cond (test v) 1 0) (present os) (present us)

  pub links_joined : {X : Type 0} (f : X → List (Option ℕ)) (xs : List X) → links test (flat_map f xs) ≡ sum_by (λ x. links test (f x)) xs
  links_joined f [] = refl
  links_joined f (x ∷ xs) = omega (arith, links_append (f x) (flat_map f xs), sum_by-cons (λ y. links test (f y)) x xs, links_joined f xs)

  links_map : {X : Type 0} (f : X → Option ℕ) (xs : List X) → links test (map f xs) ≡ sum_by (λ x. links test (f x ∷ [])) xs
  links_map f [] = refl
  links_map f (x ∷ xs) = omega (arith, links_append (f x ∷ []) (map f xs), sum_by-cons (λ y. links test (f y ∷ [])) x xs, links_map f xs)

  -- a mark's class is in one of two neighbouring runs, if it is in their union
  in_one : (a p k n : ℕ) (m : Mark) → a < p → p < k → cond (in_run a p m) n 0 + cond (in_run p k m) n 0 ≡ cond (in_run a k m) n 0
  in_one a p k n m ap' pk = grind (arith, nat_tests)

  mark_links : (c : Contents) (a b : ℕ) → links test (mark_anchors (piece c a b)) ≡ sum_by (λ (m : Mark). cond (in_run a b m) (links test (m.anchor ∷ [])) 0) c.marks
  mark_links c a b =
      links_map (λ (m : Mark). m.anchor) (piece c a b).marks
      ∙ sum_map (λ (m : Mark). links test (m.anchor ∷ [])) (renumbered a) (filter (in_run a b) c.marks)
      ∙ sum_kept (λ (m : Mark). links test (m.anchor ∷ [])) (in_run a b) c.marks

  pub marks_kept : (k : ℕ) (c : Contents) (ps : List ℕ) → Formed k c → Cutting 0 k ps → sum_by (λ (p : Contents). links test (mark_anchors p)) (pieces k c ps) ≡ links test (mark_anchors c)
  marks_kept k c ps ok cut =
      runs_summed (piece c) (λ (x : Contents). links test (mark_anchors x))
      (λ a p e ap' pe.
      let both = sum_both _ _ _ (λ (m : Mark). in_one a p e (links test (m.anchor ∷ [])) m ap' pe) c.marks in
      omega (arith, mark_links c a p, mark_links c p e, mark_links c a e))
      ps 0 k cut
      ∙ ap (λ (x : Contents). links test (mark_anchors x)) (whole_piece k c ok)

  -- the parts of a row for two neighbouring runs, one behind the other, are the part for their union
  part_both : (a p k : ℕ) (row : List (Option ℕ)) → a < p → p < k → take (p - a) (drop a row) ++ take (k - p) (drop p row) ≡ take (k - a) (drop a row)
  part_both a p k row ap' pk =
      let on : a + (p - a) ≡ p = omega arith in
      let long : (p - a) + (k - p) ≡ k - a = omega arith in
      ap (λ n. take (p - a) (drop a row) ++ take (k - p) (drop n row)) (sym on) ∙ ap (λ xs. take (p - a) (drop a row) ++ take (k - p) xs) (sym (drop-drop (p - a) a row))
      ∙ sym (take-add (p - a) (k - p) (drop a row)) ∙ ap (λ n. take n (drop a row)) long

  base_links : (c : Contents) (a b : ℕ) → links test (base_anchors (piece c a b)) ≡ sum_by (λ (s : Base). links test (row_part a b s).row) c.bases
  base_links c a b = links_joined (λ (s : Base). s.row) (piece c a b).bases ∙ sum_map (λ (s : Base). links test s.row) (row_part a b) c.bases

  pub bases_kept : (k : ℕ) (c : Contents) (ps : List ℕ) → Formed k c → Cutting 0 k ps → sum_by (λ (p : Contents). links test (base_anchors p)) (pieces k c ps) ≡ links test (base_anchors c)
  bases_kept k c ps ok cut =
      runs_summed (piece c) (λ (x : Contents). links test (base_anchors x))
      (λ a p e ap' pe.
      let both = sum_both _ _ _ (λ (s : Base). sym (links_append (row_part a p s).row (row_part p e s).row) ∙ ap (links test) (part_both a p e s.row ap' pe)) c.bases in
      omega (arith, base_links c a p, base_links c p e, base_links c a e))
      ps 0 k cut
      ∙ ap (λ (x : Contents). links test (base_anchors x)) (whole_piece k c ok)
