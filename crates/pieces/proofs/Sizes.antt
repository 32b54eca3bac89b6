-- Sizes of runs.
use Rattle.std.proofs.Common.{◌≡◌, ℕ, ◌+◌, ◌-◌, ◌*◌, ◌≤◌, List, length, count_by, filter, ap, ◌∙◌, ap₂, mul-le-mul_left, arith}
use Rattle.std.proofs.lemmas.List.{length-map}
use Rattle.std.proofs.lemmas.List.Sums.{length-filter, count_by-le-length}
use Rattle.serialize.specs.Objects.{Node, SoundObjects}
use Rattle.walk.specs.Computed.{reached_size}
use Rattle.cutting.specs.Cutting.{Monotone}
use Rattle.fields.specs.Arrays.{present}
use Rattle.markbase.specs.Values.{Contents}
use Rattle.pieces.specs.Pieces.{in_run, renumbered, row_part, piece}
use Rattle.pieces.specs.Keeping.{anchors}
use Rattle.pieces.specs.Sizes.{size, run_size, RunSizes, SizesStay}
use Rattle.pieces.proofs.Shapes.{pieces_compose, whole_piece}
use Rattle.pieces.proofs.Anchors.{of_run, run_of, in_whole}
use Rattle.pieces.proofs.Reaching.{fewer_reach, reached_same}

pub run_sum : (nodes : List Node) (cover : ℕ) (c : Contents) (a b : ℕ)
    → run_size nodes cover c a b ≡ 16 + cover + 4 + 6 * count_by (in_run a b) c.marks + 2 * length c.bases * (b - a) + reached_size nodes (present (anchors (piece c a b)))
unfolding size
run_sum nodes cover c a b =
    ap₂ (λ m n. 16 + cover + 4 + 6 * m + 2 * n * (b - a) + reached_size nodes (present (anchors (piece c a b))))
    (length-map (filter (in_run a b) c.marks) (renumbered a) ∙ length-filter (in_run a b) c.marks) (length-map c.bases (row_part a b))

-- a piece is no larger than the whole
pub piece_smaller : (nodes : List Node) → SoundObjects nodes → (cover k : ℕ) (c : Contents) (a b : ℕ) → b ≤ k → run_size nodes cover c a b ≤ size nodes cover k c
unfolding size
piece_smaller nodes sound cover k c a b h =
    let is = run_sum nodes cover c a b in
    let less = count_by-le-length (in_run a b) c.marks in
    let cells : 2 * length c.bases * (b - a) ≤ 2 * length c.bases * k = mul-le-mul_left (2 * length c.bases) (omega arith) in
    let below = fewer_reach nodes sound (anchors (piece c a b)) (anchors c) (in_whole c a b) in
    omega arith

pub monotone : (nodes : List Node) → SoundObjects nodes → (cover : ℕ) (c : Contents) → Monotone (run_size nodes cover c)
monotone nodes sound cover c a x y b ax xy yb =
    let from : a + (x - a) ≡ x = omega arith in
    let to : a + (y - a) ≡ y = omega arith in
    let long : y - a - (x - a) ≡ y - x = omega arith in
    let e : piece (piece c a b) (x - a) (y - a) ≡ piece c x y = pieces_compose c a b (x - a) (y - a) (omega arith) (omega arith) ∙ ap₂ (piece c) from to in
    let small = piece_smaller nodes sound cover (b - a) (piece c a b) (x - a) (y - a) (omega arith) in
    let same : run_size nodes cover (piece c a b) (x - a) (y - a) ≡ run_size nodes cover c x y = ap₂ (size nodes cover) long e in
    omega arith

pub run_sizes : RunSizes
run_sizes nodes sound cover c =
    record {
      only = of_run c;
      all = run_of c;
      sum = run_sum nodes cover c;
      monotone = monotone nodes sound cover c;
      inner = λ a b x y xy yb.
          let long : y - x ≡ a + y - (a + x) = omega arith in
          ap₂ (size nodes cover) long (pieces_compose c a b x y xy yb);
      whole = λ k ok.
          let long : k - 0 ≡ k = omega arith in
          ap₂ (size nodes cover) long (whole_piece k c ok);
    }

pub sizes_stay : SizesStay
unfolding size
sizes_stay nodes nodes' sound sound' cover k c agree =
    ap (λ n. 16 + cover + 4 + 6 * length c.marks + 2 * length c.bases * k + n) (reached_same nodes nodes' sound sound' (present (anchors c)) agree)
