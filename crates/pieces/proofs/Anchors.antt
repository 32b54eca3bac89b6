-- The anchors of a run, and those of a hit.
use Rattle.std.proofs.Common.{◌≡◌, ℕ, ◌+◌, ◌-◌, ◌<◌, min, Bool, true, false, cond, eqb, ltb, leb, List, [], ◌∷◌, length, get_or, take, drop, Some, None, filter, Option, sym, refl, ap, ◌∙◌, subst, inl, inr, ⊎_elim, arith}
use Rattle.std.specs.List.{ContainsAt as Has}
use Rattle.std.proofs.lemmas.List.{length-take, length-drop, get_or-take, get_or-drop, get_or_past}
use Rattle.std.proofs.lemmas.Bool.{and_parts, leb-true, ltb-true, cases_lt}
use Rattle.markbase.specs.declared.hits.Hit.{Hit}
use Rattle.markbase.specs.Values.{Mark, Base, Contents}
use Rattle.markbase.specs.Hits.{find, meet, mark_in, base_in}
use Rattle.pieces.specs.Pieces.{in_run, renumbered, row_part, piece}
use Rattle.pieces.specs.Keeping.{mark_anchors, base_anchors, anchors, HitsAnchors, HitsFromAnchors}
use Rattle.pieces.specs.Sizes.{OfRun}
use Rattle.pieces.proofs.Shapes.{in_yes, get_d_part}
use Rattle.pieces.proofs.Members.{In, in_left, in_right, in_either, in_place, in_at, in_kept, kept_in, in_map, map_in, in_joined, joined_in, in_from_has, has_from_in}

-- the anchor of a mark, and an anchor of a base's row
mark_anchor : (c : Contents) (m : Mark) → In m c.marks → In m.anchor (anchors c)
mark_anchor c m i = in_left m.anchor (mark_anchors c) (base_anchors c) (map_in (λ (x : Mark). x.anchor) m.anchor m c.marks refl i)

row_anchor : (c : Contents) (s : Base) (o : Option ℕ) → In s c.bases → In o s.row → In o (anchors c)
row_anchor c s o i j = in_right o (mark_anchors c) (base_anchors c) (joined_in (λ (x : Base). x.row) o s c.bases i j)

part_length : (a b : ℕ) (row : List (Option ℕ)) → length (take (b - a) (drop a row)) ≡ min (b - a) (length row - a)
part_length a b row = length-take (b - a) (drop a row) ∙ ap (min (b - a)) (length-drop a row)

module _ (c : Contents) (a b : ℕ) (o : Option ℕ) where
  of_mark : In o (mark_anchors (piece c a b)) → OfRun c a b o
  of_mark i =
      let k = in_map (λ (m : Mark). m.anchor) o (piece c a b).marks i in
      let m = in_map (renumbered a) k.0 (filter (in_run a b) c.marks) k.1 in
      let r = in_kept m.0 (in_run a b) c.marks m.1 in
      let p = and_parts (leb a m.0.class) (ltb m.0.class b) r.1 in
      inl (m.0, has_from_in m.0 c.marks r.0, leb-true a m.0.class p.0, ltb-true m.0.class b p.1, ap (λ (x : Mark). x.anchor) m.2 ∙ k.2)

  of_row : In o (base_anchors (piece c a b)) → OfRun c a b o
  of_row i =
      let k = in_joined (λ (s : Base). s.row) o (piece c a b).bases i in
      let s = in_map (row_part a b) k.0 c.bases k.1 in
      let row = s.0.row in
      let x = in_place o (take (b - a) (drop a row)) None (subst (λ (u : Base). In o u.row) (sym s.2) k.2) in
      let long = part_length a b row in
      let under : x.0 < b - a = omega (arith, x.1) in
      inr (s.0, has_from_in s.0 c.bases s.1, (a + x.0, omega arith, omega arith, omega (arith, x.1), sym (get_or-drop a row x.0 None) ∙ (sym (get_or-take (b - a) (drop a row) x.0 None under) ∙ x.2)))

  pub of_run : Has (anchors (piece c a b)) o → OfRun c a b o
  of_run h = ⊎_elim of_mark of_row (in_either o (mark_anchors (piece c a b)) (base_anchors (piece c a b)) (in_from_has o (anchors (piece c a b)) h))

  run_of_in : OfRun c a b o → In o (anchors (piece c a b))
  run_of_in (inl h) =
      subst (λ (u : Option ℕ). In u (anchors (piece c a b))) h.4
      (mark_anchor (piece c a b) (renumbered a h.0) (map_in (renumbered a) (renumbered a h.0) h.0 (filter (in_run a b) c.marks) refl
      (kept_in h.0 (in_run a b) c.marks (in_yes a b h.0 h.2 h.3) (in_from_has h.0 c.marks h.1))))
  run_of_in (inr h) =
      let row = h.0.row in
      let x = h.2.0 in
      let long = part_length a b row in
      row_anchor (piece c a b) (row_part a b h.0) o (map_in (row_part a b) (row_part a b h.0) h.0 c.bases refl (in_from_has h.0 c.bases h.1))
      (in_at o (take (b - a) (drop a row)) None (x - a) (omega (arith, h.2.1, h.2.2, h.2.3)) (get_d_part a b x row h.2.1 h.2.2 ∙ h.2.4))

  pub run_of : OfRun c a b o → Has (anchors (piece c a b)) o
  run_of h = has_from_in o (anchors (piece c a b)) (run_of_in h)

  whole_of : OfRun c a b o → In o (anchors c)
  whole_of (inl h) = subst (λ (u : Option ℕ). In u (anchors c)) h.4 (mark_anchor c h.0 (in_from_has h.0 c.marks h.1))
  whole_of (inr h) = row_anchor c h.0 o (in_from_has h.0 c.bases h.1) (in_at o h.0.row None h.2.0 h.2.3 h.2.4)

  -- an anchor of a piece is an anchor of the whole
  pub in_whole : Has (anchors (piece c a b)) o → Has (anchors c) o
  in_whole h = has_from_in o (anchors c) (whole_of (of_run h))

-- what is found stands in the list
find_in : {X : Type 0} (key : X → ℕ) (xs : List X) (g : ℕ) (x : X) → find key xs g ≡ Some x → In x xs
find_in key [] g x e = let z : ◌≡◌ {A = ℕ} 0 1 = cc in absurd (omega arith)
find_in key (y ∷ xs) g x e = go (eqb (key y) g) (find_in key xs g x) e
  where
    go : (t : Bool) → (find key xs g ≡ Some x → In x xs) → cond t (Some y) (find key xs g) ≡ Some x → In x (y ∷ xs)
    go true rest d = let s : y ≡ x = cc in inl s
    go false rest d = inr (rest d)

-- an anchor that is there stands in the row
row_at : (row : List (Option ℕ)) (k v : ℕ) → get_or row k None ≡ Some v → In (get_or row k None) row
row_at row k v e =
    ⊎_elim (λ l. in_at (get_or row k None) row None k l refl) (λ past. let none = get_or_past row k None past in let z : ◌≡◌ {A = ℕ} 0 1 = cc in absurd (omega arith)) (cases_lt k (length row))

module _ (c : Contents) (m g : ℕ) (h : Hit) where
  met_anchors : (o : Option Mark) (s : Option Base) → mark_in c m ≡ o → base_in c g ≡ s → meet o s ≡ Some h → HitsAnchors c m g h
  met_anchors (Some k) (Some s) is-mark is_base e =
      let mark' : k.anchor ≡ h.mark = cc in
      let base' : get_or s.row k.class None ≡ h.base = cc in
      let i = find_in (λ (x : Mark). x.glyph) c.marks m k is-mark in
      let j = find_in (λ (x : Base). x.glyph) c.bases g s is_base in
      record {
        mark = has_from_in h.mark (anchors c) (subst (λ (u : Option ℕ). In u (anchors c)) mark' (mark_anchor c k i));
        base = λ v there.
            has_from_in h.base (anchors c)
            (subst (λ (u : Option ℕ). In u (anchors c)) base' (row_anchor c s (get_or s.row k.class None) j (row_at s.row k.class v (base' ∙ there))));
      }
  met_anchors (Some k) None is-mark is_base e = let z : ◌≡◌ {A = ℕ} 0 1 = cc in absurd (omega arith)
  met_anchors None s is-mark is_base e = let z : ◌≡◌ {A = ℕ} 0 1 = cc in absurd (omega arith)

pub hits_from_anchors : HitsFromAnchors
hits_from_anchors c m g h e = met_anchors c m g h (mark_in c m) (base_in c g) refl refl e
