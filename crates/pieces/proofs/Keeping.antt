-- What cutting keeps.
use Rattle.std.proofs.Common.{ℕ, Option}
use Rattle.std.specs.List.{ContainsAt as Has}
use Rattle.markbase.specs.Values.{Contents}
use Rattle.pieces.specs.Pieces.{piece}
use Rattle.pieces.specs.Keeping.{anchors, PiecesKeep}
use Rattle.pieces.proofs.Shapes.{pieces_formed}
use Rattle.pieces.proofs.Together.{runs_all}
use Rattle.pieces.proofs.Hits.{pieces_hit_same}
use Rattle.pieces.proofs.Links.{marks_kept, bases_kept}
use Rattle.pieces.proofs.Anchors.{in_whole}

pub pieces_keep : PiecesKeep
pieces_keep k c ps ok cut =
    record {
      hits = pieces_hit_same k c ps ok cut;
      formed = pieces_formed k c ok ps 0 cut;
      marks = λ test. marks_kept test k c ps ok cut;
      bases = λ test. bases_kept test k c ps ok cut;
      inside = runs_all (piece c) (λ (p : Contents). (o : Option ℕ) → Has (anchors p) o → Has (anchors c) o) (in_whole c) ps 0 k;
    }
