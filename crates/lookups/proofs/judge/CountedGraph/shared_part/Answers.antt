use Rattle.std.proofs.Common.{◌≡◌, ℕ, false, ltb, Bor, IfSome, ap, ◌∙◌, rules, tests}
use Rattle.std.specs.Option.{option_map}
use Rattle.std.proofs.lemmas.Iterator.{YieldsList-from_slice}
use Rattle.std.proofs.lemmas.Iterator.Search.{find_from_yields_List}
use Rattle.refusal.specs.declared.Part.{Part}
use Rattle.serialize.specs.Objects.{incoming}
use Rattle.graph.specs.Model.{view}
use Rattle.lookups.proofs.Shared.{parts_of, found_first, past_extension}
use Rattle.lookups.proofs.judge.CountedGraph.shared_part.Goals as goal
use Rattle.lookups.proofs.judge.CountedGraph.shared_part.Goals.{in_default-via-in-None-1, in_default-via-in-Some+else-is_shared}

pub returns-2 : goal.returns-2
returns-2 c =
    let nodes = (view c.args.self.now.graph.now).nodes in
    let found = find_from_yields_List {all = parts_of c.args.info} (λ (p : ℕ × Part). ltb 1 (incoming nodes p.0)) _ _ c.find.result c.find.ensures.ran (YieldsList-from_slice (parts_of c.args.info) (search rules)) (λ x b q k. search (rules, tests)) in
    let taken : c.map.result ≡ option_map (λ (p : ℕ × Part). p.1) (option_map (λ (p : Bor (ℕ × Part)). p.now) c.find.result) = search rules in
    let clear : IfSome c.args.info.extension (λ v. ltb 1 (incoming nodes v) ≡ false) =
    elim c.in_default.branch [ in_default-via-in-None-1 w ↦ search rules | in_default-via-in-Some+else-is_shared w ↦ search rules ] in
    taken ∙ ap (option_map (λ (p : ℕ × Part). p.1)) found ∙ found_first (incoming nodes) (parts_of c.args.info) ∙ past_extension (incoming nodes) c.args.info.extension _ clear
