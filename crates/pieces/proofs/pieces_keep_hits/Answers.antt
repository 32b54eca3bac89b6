use Rattle.pieces.proofs.Shapes.{pieces_compose, whole_piece}
use Rattle.pieces.proofs.Keeping.{pieces_keep}
use Rattle.pieces.proofs.Anchors.{hits_from_anchors}
use Rattle.pieces.proofs.pieces_keep_hits.Goals as goal

pub returns : goal.returns
returns c = record { keep = pieces_keep; compose = pieces_compose; whole = whole_piece; from = hits_from_anchors }
