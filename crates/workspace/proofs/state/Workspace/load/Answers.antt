use Rattle.std.proofs.Common.{◌≡◌, true, length, vec_len, Some, None, sym, refl, ap, ◌∙◌, subst, arith, rules}
use Rattle.std.proofs.lemmas.List.FromFn.{length-map-range_with_len}
use Rattle.serialize.specs.ObjectFile.{trailer_of, first_broken, node_of}
use Rattle.graph.specs.Model.{Model as Objects, view as objects, with_file}
use Rattle.graph.specs.Filling.{Room}
use Rattle.workspace.specs.Rest.{long_enough}
use Rattle.workspace.specs.Model.{view}
use Rattle.workspace.proofs.Views.{graph_is, lists_are, sound_view}
use Rattle.workspace.proofs.Loads.{accepted, enough, serves, view_loaded}
use Rattle.workspace.proofs.state.Workspace.load.Goals as goal

pub fill-requires : goal.fill-requires
fill-requires c =
    let w = c.args.self.now in
    let t = c.in_ok-file.file.trailer in
    let same : c.in_ok-sound.sound.file ≡ c.in_ok-file.file = search rules in
    rw same (subst (λ (g : Objects). Room g.capacity t) (graph_is w) (enough (view w) t (sym c.in_default.ensures)))

pub invariant_of-self : goal.invariant_of-self
invariant_of-self c =
    let w = c.args.self.now in
    let t = c.in_ok-file.file.trailer in
    let same : c.in_ok-sound.sound.file ≡ c.in_ok-file.file = search rules in
    let fill = rw same at c.fill.ensures in
    let n = ap (λ (g : Objects). length g.nodes) fill ∙ length-map-range_with_len (node_of c.in_ok-file.file.bytes.now t) 0 t.vertices in
    let lists : long_enough (objects c.fill.new.self).capacity (vec_len w.first_list) (vec_len w.second_list) (vec_len w.visited) ≡ true =
    ap (λ (g : Objects). long_enough g.capacity (vec_len w.first_list) (vec_len w.second_list) (vec_len w.visited)) fill
    ∙ (sym (lists_are w) ∙ serves (view w) t (sym c.in_default.ensures)) in
    record { first = w.first; second = w.second; clear = w.clear; served = λ _. lists; opened = refl; kept = omega (arith, n) }

pub returns-in_err-file-clause-sound : goal.returns-in_err-file-clause-sound
returns-in_err-file-clause-sound c = sound_view _

pub returns-in-Some-clause-sound : goal.returns-in-Some-clause-sound
returns-in-Some-clause-sound c = sound_view _

pub returns-in_err-sound-clause-sound : goal.returns-in_err-sound-clause-sound
returns-in_err-sound-clause-sound c = sound_view _

pub returns : goal.returns
returns c =
    let w = c.args.self.now in
    let t = c.in_ok-file.file.trailer in
    let same : c.in_ok-sound.sound.file ≡ c.in_ok-file.file = search rules in
    let at : c.in_ok-file.file.bytes.now ≡ c.args.file.now = search rules in
    let is : trailer_of c.args.file.now ≡ Some t = rw at at c.in_ok-file.file.read in
    let none : first_broken c.args.file.now t ≡ None = rw (same, at) at c.in_ok-sound.sound.sound in
    let filled : objects c.fill.new.self ≡ with_file (objects w.graph) c.args.file.now t = rw (same, at) at c.fill.ensures in
    record {
      loads = (accepted (view w) c.args.file.now t is (sym c.in_default.ensures) none, (t, is, refl, view_loaded w _ c.args.file.now t filled refl refl refl refl refl));
      sound = sound_view _;
    }
