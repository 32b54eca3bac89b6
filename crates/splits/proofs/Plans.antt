-- The plans of the calls that cut: they are for the subtables that stand, and cut them into runs that hold classes.
use Rattle.std.proofs.Common.{◌≡◌, ℕ, zero, suc, ◌+◌, ◌*◌, List, [], ◌∷◌, ◌++◌, map, length, take, drop, Ok, Err, Result, refl, ap, ◌∙◌, zero-add, arith}
use Rattle.std.proofs.lemmas.List.Sums.{sum_by-cons}
use Rattle.std.specs.List.{AllByRecursion}
use Rattle.serialize.specs.Objects.{Node, SoundObjects}
use Rattle.cutting.specs.Cutting.{Cutting}
use Rattle.cutting.specs.Computed.{Agrees}
use Rattle.cutting.proofs.Computing.{agrees}
use Rattle.markbase.specs.declared.lookup_type.LookupType.{LookupType}
use Rattle.markbase.specs.Values.{Subtable}
use Rattle.pieces.specs.Pieces.{Formed}
use Rattle.pieces.proofs.Sizes.{monotone}
use Rattle.splitting.specs.Cuts.{Plan, cover_length, sizes_of, cuts_of, places_in, uncut, cut_each, cut_one}
use Rattle.splitting.specs.Leaving.{pieces_of, piece_vertices, subtables_left, new_count}
use Rattle.splitting.specs.Laws.{Cuts}

-- the subtables of a plan
abbrev pub whole : Plan → List Subtable
whole plan = map (λ (c : Subtable × List ℕ). c.0) plan

-- what a subtable holds is well formed
abbrev pub Well : Subtable → Type 0
Well t = Formed t.table.class_count t.contents

uncut_whole : (ts : List Subtable) → whole (uncut ts) ≡ ts
uncut_whole [] = refl
uncut_whole (t ∷ ts) = ap (λ (us : List Subtable). t ∷ us) (uncut_whole ts)

-- the computed places are those of the greedy cutting
pub agreement : (nodes : List Node) → SoundObjects nodes → (reach : ℕ) (t : Subtable) → Well t → Agrees (sizes_of nodes t) reach t.table.class_count
agreement nodes sound reach t well = agrees (sizes_of nodes t) (monotone nodes sound (cover_length nodes t) t.contents) reach t.table.class_count well.some

module _ (nodes : List Node) (reach : ℕ) where
  pub each_whole : (ts : List Subtable) → whole (cut_each nodes reach ts) ≡ ts
  each_whole [] = refl
  each_whole (t ∷ ts) = ap (λ (us : List Subtable). t ∷ us) (each_whole ts)

  pub one_whole : (i : ℕ) (ts : List Subtable) → whole (cut_one nodes reach i ts) ≡ ts
  one_whole i [] = refl
  one_whole zero (t ∷ ts) = ap (λ (us : List Subtable). t ∷ us) (uncut_whole ts)
  one_whole (suc i) (t ∷ ts) = ap (λ (us : List Subtable). t ∷ us) (one_whole i ts)

  uncut_cuts : (ts : List Subtable) → AllByRecursion Well ts → Cuts (uncut ts)
  uncut_cuts [] h = tt
  uncut_cuts (t ∷ ts) h = (h.0.some, uncut_cuts ts h.1)

  module _ (sound : SoundObjects nodes) where
    places_cut : (t : Subtable) → Well t → (x : Result (List ℕ) ℕ) → cuts_of nodes reach t ≡ x → Cutting 0 t.table.class_count (places_in x)
    places_cut t well (Ok ps) e = ((agreement nodes sound reach t well).done ps e).cuts
    places_cut t well (Err c) e = well.some

    pub each_cuts : (ts : List Subtable) → AllByRecursion Well ts → Cuts (cut_each nodes reach ts)
    each_cuts [] h = tt
    each_cuts (t ∷ ts) h = (places_cut t h.0 (cuts_of nodes reach t) refl, each_cuts ts h.1)

    pub one_cuts : (i : ℕ) (ts : List Subtable) → AllByRecursion Well ts → Cuts (cut_one nodes reach i ts)
    one_cuts i [] h = tt
    one_cuts zero (t ∷ ts) h = (places_cut t h.0 (cuts_of nodes reach t) refl, uncut_cuts ts h.1)
    one_cuts (suc i) (t ∷ ts) h = (h.0.some, one_cuts i ts h.1)

  module _ (t : Subtable) (after : List Subtable) where
    -- the subtable behind these is picked
    pub picked : (before : List Subtable) → take 1 (drop (length before) (before ++ t ∷ after)) ≡ t ∷ []
    picked [] = refl
    picked (b ∷ before) = picked before

    -- only that one is cut
    pub one_plan : (before : List Subtable) → cut_one nodes reach (length before) (before ++ t ∷ after) ≡ uncut before ++ (t, places_in (cuts_of nodes reach t)) ∷ uncut after
    one_plan [] = refl
    one_plan (b ∷ before) = ap (λ (plan : Plan). (b, []) ∷ plan) (one_plan before)

-- subtables that are not cut
none_new : (ts : List Subtable) → new_count (uncut ts) ≡ 0
none_new [] = refl
none_new (t ∷ ts) = sum_by-cons (λ (c : Subtable × List ℕ). length c.1) (t, []) (uncut ts) ∙ (zero-add (new_count (uncut ts)) ∙ none_new ts)

uncut_left : (kind : LookupType) (n : ℕ) (ts : List Subtable) → subtables_left kind n (uncut ts) ≡ ts
uncut_left kind n [] = refl
uncut_left kind n (t ∷ ts) = ap (λ (us : List Subtable). t ∷ us) (uncut_left kind (n + piece_vertices kind * 0) ts)

module _ (t : Subtable) (ps : List ℕ) (after : List Subtable) where
  -- what is left where one is cut
  pub one_left : (kind : LookupType) (n : ℕ) (before : List Subtable) → subtables_left kind n (uncut before ++ (t, ps) ∷ uncut after) ≡ before ++ (pieces_of kind n t ps ++ after)
  one_left kind n [] = ap (λ (us : List Subtable). pieces_of kind n t ps ++ us) (uncut_left kind (n + piece_vertices kind * length ps) after)
  one_left kind n (b ∷ before) =
      let at : n + piece_vertices kind * 0 ≡ n = omega arith in
      ap (λ (us : List Subtable). b ∷ us) (one_left kind (n + piece_vertices kind * 0) before ∙ ap (λ (m : ℕ). before ++ (pieces_of kind m t ps ++ after)) at)

  -- it has one new piece for each place
  pub one_count : (before : List Subtable) → new_count (uncut before ++ (t, ps) ∷ uncut after) ≡ length ps
  one_count [] = let rest = none_new after in let e = sum_by-cons (λ (c : Subtable × List ℕ). length c.1) (t, ps) (uncut after) in omega arith
  one_count (b ∷ before) =
      sum_by-cons (λ (c : Subtable × List ℕ). length c.1) (b, []) (uncut before ++ (t, ps) ∷ uncut after)
      ∙ (zero-add (new_count (uncut before ++ (t, ps) ∷ uncut after)) ∙ one_count before)
