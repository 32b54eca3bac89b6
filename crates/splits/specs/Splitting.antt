-- Cutting and extending the open lookup.
use Rattle.std.specs.Prelude.{◌≡◌, ℕ, List, [], length, Some, None, Ok, Err, Option, Result}
use Rattle.refusal.specs.declared.Refusal.{Refusal}
use Rattle.refusal.specs.declared.Refusal.TheVariants.{NothingOpen}
use Rattle.graph.specs.Model.{Model as Objects}
use Rattle.markbase.specs.Values.{Subtable}
use Rattle.splitting.specs.Vertices.{Meaning}
use Rattle.splitting.specs.Cuts.{Plan}
use Rattle.splitting.specs.Leaving.{new_count}
use Rattle.splitting.specs.Calls as on
use Rattle.workspace.specs.Model.{Model}

-- the subtables of the open lookup
abbrev pub subtables_of : Model → List Subtable
subtables_of m = elim m.lookup [ None ↦ [] | Some v ↦ on.subtables_at m.graph.nodes v ]

-- why a call on the open lookup is refused: there is none, or there is a cause on the objects
abbrev pub unless_open : Option ℕ → (ℕ → Option Refusal) → Option Refusal
unless_open None cause = Some NothingOpen
unless_open (Some v) cause = cause v

-- why `split` is refused
abbrev pub split_refusal : Meaning → Model → ℕ → ℕ → Option Refusal
split_refusal w m place reach = unless_open m.lookup (λ v. on.split_refusal w m.graph v place reach)

-- why split-all is refused
abbrev pub split_all_refusal : Meaning → Model → ℕ → Option Refusal
split_all_refusal w m reach = unless_open m.lookup (λ v. on.split_all_refusal w m.graph v reach)

-- why `extend` is refused
abbrev pub extend_refusal : Model → Option Refusal
extend_refusal m = unless_open m.lookup (λ v. on.extend_refusal m.graph v)

-- other objects, and all else as it was
abbrev pub with_objects : Model → Objects → Model
with_objects m g = record { graph = g; lists = m.lists; loaded = m.loaded; lookup = m.lookup }

-- a call that cuts the open lookup as planned is done: it answers how many new pieces there are
abbrev pub Cut : Meaning → Model → (ℕ → Plan) → ℕ → Model → Type 0
Cut w m plan n m' = (v : ℕ) × (m.lookup ≡ Some v) × (n ≡ new_count (plan v)) × (m' ≡ with_objects m (on.cut_by w m.graph v (plan v)))

-- what `split` answers, with the model before it and after; a refusal changes nothing
abbrev pub Splits : Meaning → Model → ℕ → ℕ → Result ℕ Refusal → Model → Type 0
Splits w m place reach (Ok n) m' = (split_refusal w m place reach ≡ None) × Cut w m (λ v. on.split_plan m.graph v place reach) n m'
Splits w m place reach (Err e) m' = (split_refusal w m place reach ≡ Some e) × (m' ≡ m)

-- what split-all answers
abbrev pub SplitsAll : Meaning → Model → ℕ → Result ℕ Refusal → Model → Type 0
SplitsAll w m reach (Ok n) m' = (split_all_refusal w m reach ≡ None) × Cut w m (λ v. on.split_all_plan m.graph v reach) n m'
SplitsAll w m reach (Err e) m' = (split_all_refusal w m reach ≡ Some e) × (m' ≡ m)

-- what `extend` answers: how many subtables there are
abbrev pub Extends : Model → Result ℕ Refusal → Model → Type 0
Extends m (Ok n) m' = (extend_refusal m ≡ None) × ((v : ℕ) × (m.lookup ≡ Some v) × (n ≡ length (on.subtables_at m.graph.nodes v)) × (m' ≡ with_objects m (on.extended m.graph v)))
Extends m (Err e) m' = (extend_refusal m ≡ Some e) × (m' ≡ m)
