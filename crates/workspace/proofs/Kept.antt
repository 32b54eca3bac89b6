-- While a lookup is open, no history changes the model.
use Rattle.std.proofs.Common.{◌≡◌, ℕ, false, List, [], ◌∷◌, Some, None, Ok, Err, Option, Result, sym, refl, ap, ◌∙◌, subst, arith}
use Rattle.std.specs.List.{AllByRecursion}
use Rattle.refusal.specs.declared.Refusal.{Refusal}
use Rattle.refusal.specs.declared.Refusal.TheVariants.{LookupOpen}
use Rattle.serialize.specs.Objects.{Node}
use Rattle.workspace.specs.Model.{Model}
use Rattle.workspace.specs.Rest.{wrong_at}
use Rattle.workspace.specs.Opening.{Opens, open_refusal}
use Rattle.workspace.specs.Attaching.{hits_of}
use Rattle.workspace.specs.Histories.{Line, Step, ends, History, SameAnchor, SameHit, SamePair, Keeps}
use Rattle.workspace.specs.Histories.Line.{loading, opening, closing, attaching, asking}
use Rattle.workspace.specs.Histories.History.{start, next}

-- a lookup is open, so no other is opened
still : (m m' : Model) (u v : ℕ) (r : Result ℕ Refusal) → m.lookup ≡ Some u → Opens m v r m' → m' ≡ m
still m m' u v (Err e) is o = o.1
still m m' u v (Ok n) is o =
    let is' : open_refusal m v ≡ Some (LookupOpen u) = ap (λ (x : Option ℕ). elim x [ Some w ↦ Some (LookupOpen w) | None ↦ wrong_at m.graph.nodes v ]) is in
    let z : ◌≡◌ {A = ℕ} 0 1 = cc in absurd (omega arith)

-- a line that does not end the history leaves the model as it was
unchanged_by : (m m' : Model) (u : ℕ) (l : Line) → m.lookup ≡ Some u → ends l ≡ false → Step m l m' → m' ≡ m
unchanged_by m m' u (loading file (Ok n)) is e s = let z : ◌≡◌ {A = ℕ} 0 1 = cc in absurd (omega arith)
unchanged_by m m' u (loading file (Err r)) is e s = s.1
unchanged_by m m' u (opening v r) is e s = still m m' u v r is s
unchanged_by m m' u (closing (Ok n)) is e s = let z : ◌≡◌ {A = ℕ} 0 1 = cc in absurd (omega arith)
unchanged_by m m' u (closing (Err r)) is e s = s.1
unchanged_by m m' u (attaching mark base r) is e s = s.1
unchanged_by m m' u (asking n) is e s = s.1

unchanged : (m : Model) (u : ℕ) → m.lookup ≡ Some u → {ls : List Line} {m' : Model} → History m ls m' → m' ≡ m
unchanged m u is start = refl
unchanged m u is (next h l e s) = let same = unchanged m u is h in unchanged_by _ _ u l (ap (λ (x : Model). x.lookup) same ∙ is) e s ∙ same

-- every pair is the same in the same model
same_anchor : (nodes : List Node) (o : Option ℕ) → SameAnchor nodes nodes o
same_anchor nodes None = tt
same_anchor nodes (Some v) = λ w. ((λ r. (r, refl)), λ r. r)

each : {X : Type 0} (P : X → Type 0) → ((x : X) → P x) → (xs : List X) → AllByRecursion P xs
each P p [] = tt
each P p (x ∷ xs) = (p x, each P p xs)

same_pair : (m : Model) (mark base : ℕ) → SamePair m m mark base
same_pair m mark base =
    record {
      hits = refl;
      same = each (SameHit m.graph.nodes m.graph.nodes) (λ h. (same_anchor m.graph.nodes h.mark, same_anchor m.graph.nodes h.base)) (hits_of m mark base);
      attach = refl;
    }

-- so every history from a model with an open lookup keeps every pair
pub keeps : (m : Model) (u : ℕ) → m.lookup ≡ Some u → Keeps m
keeps m u is ls m' h mark base = subst (λ (x : Model). SamePair m x mark base) (sym (unchanged m u is h)) (same_pair m mark base)
