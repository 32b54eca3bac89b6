use Rattle.std.proofs.Common.{ℕ, length, replicate, sym, ap, ◌∙◌}
use Rattle.std.proofs.lemmas.List.FromFn.{length-map-range_with_len}
use Rattle.serialize.specs.Objects.{incoming}
use Rattle.graph.specs.Model.{view as objects}
use Rattle.graph.proofs.Views.{sound_objects}
use Rattle.workspace.proofs.Opens.{counted, judged_way, no_lookup}
use Rattle.workspace.proofs.state.open_lookup.judge.Goals as goal
use Rattle.workspace.proofs.state.open_lookup.judge.Goals.{then-list-v-eq0, else-list-v-eq0}

pub judge_lookup-judged-requires : goal.judge_lookup-judged-requires
judge_lookup-judged-requires c =
    let g = c.args.graph.now in
    counted (objects g).nodes _ _ (sound_objects g) c.requires.long c.count_incoming.ensures

pub returns : goal.returns
returns c =
    let g = c.args.graph.now in
    let nodes = (objects g).nodes in
    let v = c.args.v in
    let n = length c.args.list.now in
    let are = counted nodes c.count_incoming.new.counts n (sound_objects g) c.requires.long c.count_incoming.ensures v in
    record {
      judged =
          elim c.if-list-v-eq0.branch [
            | then-list-v-eq0 w ↦ rw w.judged-is (judged_way nodes v c.requires.vertex _ (sym are ∙ w.if-list-v-eq0.true) w.judge_lookup-judged.ensures)
            | else-list-v-eq0 w ↦ rw w.judged-is (no_lookup nodes v c.requires.vertex (λ e. w.if-list-v-eq0.false (are ∙ e)))
          ];
      zero = c.fill.ensures.after (λ y e. e) ∙ ap (λ (k : ℕ). replicate k 0) (ap length c.count_incoming.ensures ∙ length-map-range_with_len (incoming nodes) 0 n);
    }
