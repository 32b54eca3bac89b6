-- How many links pass a test of their child, in all vertices or in some.
use Rattle.std.proofs.Common.{◌≡◌, ℕ, zero, suc, ◌+◌, ◌<◌, ◌≤◌, Bool, true, cond, eqb, List, [], ◌∷◌, ◌++◌, map, length, set, sum_by, count_by, sym, refl, ◌∙◌, subst, inl, inr, ⊎_elim, arith}
use Rattle.std.specs.List.{flat_map, AllByRecursion}
use Rattle.std.proofs.lemmas.List.Sums.{sum_by-cons, sum_by-append, sum_by-set}
use Rattle.std.proofs.lemmas.Bool.{cases_eq, cases_lt}
use Rattle.std.proofs.lemmas.List.{get_or_past}
use Rattle.serialize.specs.declared.link.Link.{Link}
use Rattle.serialize.specs.Objects.{Node, no_node, node_at, links_at, link_at, all_links, incoming, SoundObjects}
use Rattle.graph.proofs.Counts.{none_lead, children_in}
use Rattle.walk.specs.Computed.{children}
use Rattle.walk.specs.Reach.{Leads}
use Rattle.splitting.proofs.Members.{In, Distinct, count_from_in, sum_chosen}

-- how many links of all vertices lead to a vertex that passes the test
abbrev pub tally : (ℕ → Bool) → List Node → ℕ
tally test nodes = sum_by (λ (x : Node). count_by test (children x)) nodes

-- a sum over a list that is made of another
pub sum_over_map : {X Y : Type 0} (f : Y → ℕ) (g : X → Y) (xs : List X) → sum_by f (map g xs) ≡ sum_by (λ (x : X). f (g x)) xs
sum_over_map f g [] = refl
sum_over_map {X} f g (x ∷ xs) = omega (arith, sum_by-cons f (g x) (map g xs), sum_by-cons (λ (y : X). f (g y)) x xs, sum_over_map f g xs)

pub sum_over_joined : {X Y : Type 0} (f : Y → ℕ) (g : X → List Y) (xs : List X) → sum_by f (flat_map g xs) ≡ sum_by (λ (x : X). sum_by f (g x)) xs
sum_over_joined f g [] = refl
sum_over_joined {X} f g (x ∷ xs) = omega (arith, sum_by-append f (g x) (flat_map g xs), sum_by-cons (λ (y : X). sum_by f (g y)) x xs, sum_over_joined f g xs)

-- the sum over all links is that over the children of all vertices
over_links : (test : ℕ → Bool) (nodes : List Node) → count_by (λ (l : Link). test l.child) (all_links nodes) ≡ tally test nodes
over_links test [] = refl
over_links test (x ∷ xs) =
    let f : Link → ℕ = λ l. cond (test l.child) 1 0 in
    omega (arith, sum_by-append f x.links (all_links xs), sum_by-cons (λ (y : Node). count_by test (children y)) x xs, sum_over_map (λ (c : ℕ). cond (test c) 1 0) (λ (l : Link). l.child) x.links, over_links test xs)

-- the links that lead to a vertex, and all links
pub incoming_tally : (nodes : List Node) (w : ℕ) → incoming nodes w ≡ tally (λ c. eqb c w) nodes
incoming_tally nodes w = over_links (λ c. eqb c w) nodes

count_all : {X : Type 0} (xs : List X) → count_by (λ (x : X). true) xs ≡ length xs
count_all [] = refl
count_all {X} (x ∷ xs) = omega (arith, sum_by-cons (λ (y : X). 1) x xs, count_all xs)

pub links_tally : (nodes : List Node) → length (all_links nodes) ≡ tally (λ c. true) nodes
links_tally nodes = sym (count_all (all_links nodes)) ∙ over_links (λ c. true) nodes

-- one vertex is another, and some are added
pub tally_set : (test : ℕ → Bool) (nodes : List Node) (v : ℕ) (x : Node) → v < length nodes → tally test (set nodes v x) + count_by test (children (node_at nodes v)) ≡ tally test nodes + count_by test (children x)
tally_set test nodes v x h = sum_by-set (λ (y : Node). count_by test (children y)) nodes v x no_node h

pub tally_append : (test : ℕ → Bool) (xs ys : List Node) → tally test (xs ++ ys) ≡ tally test xs + tally test ys
tally_append test xs ys = sum_by-append (λ (x : Node). count_by test (children x)) xs ys

-- no link leads past the vertices
pub incoming_past : (nodes : List Node) → SoundObjects nodes → (w : ℕ) → length nodes ≤ w → incoming nodes w ≡ 0
incoming_past nodes sound w h = none_lead (all_links nodes) (length nodes) w (children_in nodes sound) h

-- distinct vertices have no more links than all
pub some_of : (test : ℕ → Bool) (nodes : List Node) (us : List ℕ) → Distinct us → AllByRecursion (λ u. u < length nodes) us → sum_by (λ u. count_by test (children (node_at nodes u))) us ≤ tally test nodes
some_of test nodes us a b = sum_chosen (λ (x : Node). count_by test (children x)) no_node refl nodes us a b

-- a link leads from u to w: w is a child of u
child_at : (ls : List Link) (i : ℕ) → i < length ls → In (link_at ls i).child (map (λ (l : Link). l.child) ls)
child_at [] i h = absurd (omega arith)
child_at (l ∷ ls) zero h = inl refl
child_at (l ∷ ls) (suc i) h = inr (child_at ls i (omega arith))

link_of : (ls : List Link) (w : ℕ) → In w (map (λ (l : Link). l.child) ls) → (i : ℕ) × (i < length ls) × ((link_at ls i).child ≡ w)
link_of [] w i = absurd i
link_of (l ∷ ls) w (inl e) = (0, omega arith, e)
link_of (l ∷ ls) w (inr i) = let r = link_of ls w i in (suc r.0, omega (arith, r.1), r.2)

pub child_from_leads : (nodes : List Node) (u w : ℕ) → Leads nodes u w → In w (children (node_at nodes u))
child_from_leads nodes u w h = subst (λ (c : ℕ). In c (children (node_at nodes u))) h.2 (child_at (links_at nodes u) h.0 h.1)

pub leads_from_child : (nodes : List Node) (u w : ℕ) → In w (children (node_at nodes u)) → Leads nodes u w
leads_from_child nodes u w i = link_of (links_at nodes u) w i

-- what has a child is a vertex
pub parent_in : (nodes : List Node) (u w : ℕ) → In w (children (node_at nodes u)) → u < length nodes
parent_in nodes u w i = ⊎_elim (λ h. h) (λ h. absurd (subst (λ (x : Node). In w (children x)) (get_or_past nodes u no_node h) i)) (cases_lt u (length nodes))

-- of distinct vertices with w as a child there are as many as lead to w at most
pub parents_counted : (nodes : List Node) (w : ℕ) (us : List ℕ) → Distinct us → AllByRecursion (λ u. u < length nodes) us → sum_by (λ u. count_by (λ c. eqb c w) (children (node_at nodes u))) us ≤ incoming nodes w
parents_counted nodes w us a b = omega (arith, some_of (λ c. eqb c w) nodes us a b, incoming_tally nodes w)

-- where no link leads there is no parent
pub no_parent : (nodes : List Node) (u w : ℕ) → incoming nodes w ≡ 0 → Leads nodes u w → ⊥
no_parent nodes u w none h =
    let i = child_from_leads nodes u w h in
    omega (arith, parents_counted nodes w (u ∷ []) (λ j. j, tt) (parent_in nodes u w i, tt), count_from_in w (children (node_at nodes u)) i)

-- where at most one link leads there is one parent at most
pub one_parent : (nodes : List Node) (u u' w : ℕ) → incoming nodes w ≤ 1 → Leads nodes u w → Leads nodes u' w → u ≡ u'
one_parent nodes u u' w once h h' =
    let i = child_from_leads nodes u w h in
    let j = child_from_leads nodes u' w h' in
    let both : (u ≡ u' → ⊥) → ⊥ =
    λ ne. omega (
      arith,
      parents_counted nodes w (u ∷ u' ∷ []) (⊎_elim (λ e. ne (sym e)) (λ k. k), (λ k. k, tt)) (parent_in nodes u w i, (parent_in nodes u' w j, tt)),
      count_from_in w (children (node_at nodes u)) i,
      count_from_in w (children (node_at nodes u')) j,
    ) in
    ⊎_elim (λ e. e) (λ ne. absurd (both ne)) (cases_eq u u')

-- what has a parent is a vertex
pub child_below : (nodes : List Node) → SoundObjects nodes → (u w : ℕ) → Leads nodes u w → w < length nodes
child_below nodes sound u w h = ⊎_elim (λ l. l) (λ l. absurd (no_parent nodes u w (incoming_past nodes sound w l) h)) (cases_lt w (length nodes))
