-- Counts of the links that lead to a vertex.
use Rattle.std.proofs.Common.{◌≡◌, ℕ, suc, ◌+◌, ◌<◌, ◌≤◌, Bool, cond, eqb, List, [], ◌∷◌, length, get_or, take, set, sym, refl, ap, ◌∙◌, subst, inl, inr, arith}
use Rattle.std.specs.List.{flat_map, AllByRecursion}
use Rattle.std.proofs.lemmas.List.{length-set, length-take-le, get_or-set_same, get_or-set_other}
use Rattle.std.proofs.ByRecursion.{All-append, All-get_or, All-from_get_or}
use Rattle.std.proofs.lemmas.List.Sums.{sum_by-cons, count_by_more_yes, count_by_more_no, count_by-le-length}
use Rattle.std.proofs.lemmas.Bool.{cases_eq, eq-eqb, ne_eqb}
use Rattle.serialize.specs.declared.link.Link.{Link}
use Rattle.serialize.specs.Objects.{Node, no_node, no_link, link_at, leading_to, all_links, SoundObjects}

-- what holds of each link of each vertex holds of all links
all_joined_of : {X Y : Type 0} (P : Y → Type 0) (f : X → List Y) (xs : List X) → AllByRecursion (λ x. AllByRecursion P (f x)) xs → AllByRecursion P (flat_map f xs)
all_joined_of P f [] a = tt
all_joined_of P f (x ∷ xs) a = All-append P (f x) (flat_map f xs) a.0 (all_joined_of P f xs a.1)

-- in sound objects every link leads to a vertex
pub children_in : (nodes : List Node) → SoundObjects nodes → (i : ℕ) → i < length (all_links nodes) → (link_at (all_links nodes) i).child < length nodes
children_in nodes sound i h =
    let P : Link → Type 0 = λ l. l.child < length nodes in
    All-get_or P (all_links nodes) i no_link h
    (all_joined_of P (λ (x : Node). x.links) nodes
    (All-from_get_or (λ (x : Node). AllByRecursion P x.links) nodes no_node (λ v k. All-from_get_or P _ no_link (λ j m. ((sound v k).1 j m).0))))

-- one link more
pub count_more : (ls : List Link) (counts : List ℕ) (i : ℕ) → i < length ls → ((v : ℕ) → v < length counts → get_or counts v 0 ≡ leading_to (take i ls) v)
    → (link_at ls i).child < length counts
    → (v : ℕ) → v < length (set counts (link_at ls i).child (get_or counts (link_at ls i).child 0 + 1))
    → get_or (set counts (link_at ls i).child (get_or counts (link_at ls i).child 0 + 1)) v 0 ≡ leading_to (take (i + 1) ls) v
count_more ls counts i h are in' v lt =
    let child = (link_at ls i).child in
    let n = length-set counts child (get_or counts child 0 + 1) in
    let p : Link → _ = λ l. eqb l.child v in
    elim (cases_eq v child) [
      | inl same ↦
          subst (λ (k : ℕ). get_or (set counts child (get_or counts child 0 + 1)) k 0 ≡ leading_to (take (i + 1) ls) k) (sym same)
          (get_or-set_same counts child (get_or counts child 0 + 1) 0 in'
          ∙ (ap (λ (k : ℕ). k + 1) (are child in') ∙ sym (count_by_more_yes (λ (l : Link). eqb l.child child) ls i no_link h (eq-eqb child child refl))))
      | inr other ↦
          get_or-set_other counts child v (get_or counts child 0 + 1) 0 other
          ∙ (are v (omega arith) ∙ sym (count_by_more_no (λ (l : Link). eqb l.child v) ls i no_link h (ne_eqb child v (λ e. other (sym e)))))
    ]

pub count_small : (ls : List Link) (i v : ℕ) → i ≤ length ls → leading_to (take i ls) v ≤ i
count_small ls i v h = omega (arith, count_by-le-length (λ (l : Link). eqb l.child v) (take i ls), length-take-le i ls h)

-- no link leads past the vertices
pub none_lead : (ls : List Link) (n v : ℕ) → ((i : ℕ) → i < length ls → (link_at ls i).child < n) → n ≤ v → leading_to ls v ≡ 0
none_lead [] n v in' h = refl
none_lead (l ∷ ls) n v in' h =
    let p : Link → ℕ = λ (x : Link). cond (eqb x.child v) 1 0 in
    let not = ne_eqb l.child v (λ e. omega (arith, in' 0 (omega arith))) in
    sum_by-cons p l ls ∙ (ap (λ (b : Bool). cond b 1 0 + leading_to ls v) not ∙ (ap (λ (k : ℕ). 0 + k) (none_lead ls n v (λ i k. in' (suc i) (omega arith)) h)))
