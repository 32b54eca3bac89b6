-- The pieces of one subtable that was cut greedily.
use Rattle.std.proofs.Common.{◌≡◌, ℕ, ◌+◌, ◌-◌, ◌*◌, ◌≤◌, List, [], ◌∷◌, length, sym, refl, ap, subst, arith}
use Rattle.std.specs.List.{AllByRecursion}
use Rattle.serialize.specs.Objects.{Node, SoundObjects}
use Rattle.cutting.specs.Cutting.{Fits}
use Rattle.markbase.specs.declared.lookup_type.LookupType.{LookupType}
use Rattle.markbase.specs.Values.{Contents, Subtable}
use Rattle.pieces.specs.Pieces.{piece, pieces}
use Rattle.pieces.specs.Keeping.{contents_of}
use Rattle.pieces.specs.Sizes.{size}
use Rattle.pieces.proofs.Shapes.{whole_piece}
use Rattle.pieces.proofs.Sizes.{run_sizes}
use Rattle.splitting.specs.Cuts.{cover_length, sizes_of, whole_size}
use Rattle.splitting.specs.Leaving.{new_pieces, pieces_of}
use Rattle.splitting.proofs.Placing.{count_news, new_contents}
use Rattle.splits.proofs.Plans.{Well}

-- there is one more than there are places
pub parts_count : (kind : LookupType) (n : ℕ) (t : Subtable) (ps : List ℕ) → length (pieces_of kind n t ps) ≡ length ps + 1
parts_count kind n t [] = refl
parts_count kind n t (p ∷ qs) = let e = count_news kind n t p qs in omega arith

-- they hold the pieces
pub parts_hold : (kind : LookupType) (n : ℕ) (t : Subtable) (ps : List ℕ) → Well t → contents_of (pieces_of kind n t ps) ≡ pieces t.table.class_count t.contents ps
parts_hold kind n t [] well = ap (λ (c : Contents). c ∷ []) (sym (whole_piece t.table.class_count t.contents well))
parts_hold kind n t (p ∷ qs) well = new_contents kind n t p qs

-- and each has the size of its run
module _ (nodes : List Node) (sound : SoundObjects nodes) (reach : ℕ) (t : Subtable) where
  later_fit : (kind : LookupType) (v e a : ℕ) (ps : List ℕ) → Fits (sizes_of nodes t) reach a t.table.class_count ps → AllByRecursion (λ (q : Subtable). whole_size nodes q ≤ reach) (new_pieces kind t v e a ps)
  later_fit kind v e a [] h = (h, tt)
  later_fit kind v e a (p ∷ ps) h = (h.0, later_fit kind (v + 4) (e + 1) p ps h.1)

  pub parts_fit : (kind : LookupType) (n : ℕ) (ps : List ℕ) → Well t → Fits (sizes_of nodes t) reach 0 t.table.class_count ps → AllByRecursion (λ (q : Subtable). whole_size nodes q ≤ reach) (pieces_of kind n t ps)
  parts_fit kind n [] well h = (subst (λ (s : ℕ). s ≤ reach) ((run_sizes nodes sound (cover_length nodes t) t.contents).whole t.table.class_count well) h, tt)
  parts_fit kind n (p ∷ qs) well h =
      let same : p - 0 ≡ p = omega arith in
      (subst (λ (k : ℕ). size nodes (cover_length nodes t) k (piece t.contents 0 p) ≤ reach) same h.0, later_fit kind n (n + 4 * (length qs + 1)) p qs h.1)
