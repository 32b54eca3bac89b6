-- The lookup stands that a done `open` has opened.
use Rattle.std.proofs.Common.{◌≡◌, ℕ, ◌<◌, Bool, true, false, cond, ◌&&◌, eqb, ltb, List, Some, None, Ok, Err, Option, length, sym, refl, subst}
use Rattle.std.proofs.lemmas.Bool.{ltb-true, eqb-true}
use Rattle.refusal.specs.declared.Refusal.{Refusal}
use Rattle.refusal.specs.declared.Refusal.TheVariants.{LookupOpen, NoLookup}
use Rattle.serialize.specs.Objects.{Node, node_at, incoming, SoundObjects}
use Rattle.markbase.specs.Nodes.{read}
use Rattle.lookups.specs.Tables.{lookup}
use Rattle.lookups.specs.Judging.{wrong_lookup}
use Rattle.splitting.proofs.Forming.{Bytes}
use Rattle.splitting.proofs.Opening.{opens_stands}
use Rattle.workspace.specs.Model.{Model}
use Rattle.workspace.specs.Rest.{wrong_at}
use Rattle.workspace.specs.Opening.{open_refusal, with_lookup}
use Rattle.splits.specs.Histories.{Keeps, HistoriesKeep}
use Rattle.splits.proofs.Staying.{Open, settled}
use Rattle.splits.proofs.Kept.{keeps}

-- a lookup with which nothing is wrong: it is a vertex, no link leads to it, and it can be read
record Right (nodes : List Node) (v : ℕ) : Type 0 where
  here : v < length nodes
  root : incoming nodes v ≡ 0
  reads : wrong_lookup nodes (read lookup (node_at nodes v)) ≡ None

right : (nodes : List Node) (v : ℕ) → wrong_at nodes v ≡ None → Right nodes v
unfolding wrong_at
right nodes v e = by (ltb v (length nodes)) (eqb (incoming nodes v) 0) refl refl e
  where
    by : (a b : Bool) → ltb v (length nodes) ≡ a → eqb (incoming nodes v) 0 ≡ b → cond (a && b) (wrong_lookup nodes (read lookup (node_at nodes v))) (Some NoLookup) ≡ None → Right nodes v
    by true true l r h = record { here = ltb-true v (length nodes) l; root = eqb-true (incoming nodes v) 0 r; reads = h }
    by true false l r h = absurd (cc)
    by false b l r h = absurd (cc)

-- a lookup is opened only where none is open
judged : (m : Model) (v : ℕ) (o : Option ℕ) → elim o as (λ _. Option Refusal) [ Some u ↦ Some (LookupOpen u) | None ↦ wrong_at m.graph.nodes v ] ≡ None → wrong_at m.graph.nodes v ≡ None
judged m v None e = e
judged m v (Some u) e = absurd (cc)

opened : (m : Model) → SoundObjects m.graph.nodes → Bytes m.graph.nodes → m.graph.capacity.vertices < 65536 → (v : ℕ) → open_refusal m v ≡ None → Open (with_lookup m (Some v)) v
opened m sound low few v e =
    let r = right m.graph.nodes v (judged m v m.lookup e) in
    let s = opens_stands m.graph.nodes v sound low r.here r.root r.reads in
    record { is = refl; stands = settled m.graph.nodes v s.0 s.1.0 s.1.1; few = few }

-- so every history from it keeps what it promises
pub histories_keep_lem : HistoriesKeep
histories_keep_lem m sound low few v (Ok n) m' s = subst Keeps (sym s.2) (keeps (with_lookup m (Some v)) v (opened m sound low few v s.0))
histories_keep_lem m sound low few v (Err e) m' s = tt
