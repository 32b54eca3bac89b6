-- The computed marks are what the roots reach.
use Rattle.std.proofs.Common.{◌≡◌, ℕ, zero, suc, ◌+◌, ◌<◌, ◌≤◌, Bool, true, false, ◌⊎◌, List, [], ◌∷◌, map, length, get_or, set, replicate, sym, refl, ap, ◌∙◌, subst, inl, inr, ⊎_elim, arith}
use Rattle.std.proofs.lemmas.List.{get_or_past, length-set, length-replicate}
use Rattle.std.proofs.lemmas.Bool.{cases_lt, false≢true}
use Rattle.serialize.specs.declared.link.Link.{Link}
use Rattle.serialize.specs.Objects.{Node, no_node, link_at, SoundObjects}
use Rattle.walk.specs.Reach.{Leads, Reach, here, step, Reached, Marked, Closed}
use Rattle.walk.specs.Computed.{marking, children, follow, sweep, spread, reached, ReachedRight}
use Rattle.walk.proofs.Marking.{set_cases, set_here, set_keeps, none_marked, unmarked, set_falls, unmarked_le, all_marked}
use Rattle.walk.proofs.Spread.{Sent, follows, reached_on}

abbrev child_of : Link → ℕ
child_of l = l.child

-- marking several vertices
length-marking : (vs : List ℕ) (ms : List Bool) → length (marking vs ms) ≡ length ms
length-marking [] ms = refl
length-marking (v ∷ vs) ms = length-marking vs (set ms v true) ∙ length-set ms v true

marking_grows : (vs : List ℕ) (ms : List Bool) (w : ℕ) → Marked ms w → Marked (marking vs ms) w
marking_grows [] ms w m = m
marking_grows (v ∷ vs) ms w m = marking_grows vs (set ms v true) w (set_keeps ms v w m)

abbrev Falls : List Bool → List Bool → Type 0
Falls ms ns = (ns ≡ ms) ⊎ (unmarked ns < unmarked ms)

falls_on : (ms ns ks : List Bool) → Falls ms ns → Falls ns ks → Falls ms ks
falls_on ms ns ks (inl d) (inl e) = inl (e ∙ d)
falls_on ms ns ks (inl d) (inr l) = inr (omega (arith, ap unmarked d))
falls_on ms ns ks (inr l) (inl e) = inr (omega (arith, ap unmarked e))
falls_on ms ns ks (inr l) (inr k) = inr (omega arith)

marking_falls : (vs : List ℕ) (ms : List Bool) → Falls ms (marking vs ms)
marking_falls [] ms = inl refl
marking_falls (v ∷ vs) ms = falls_on ms (set ms v true) (marking vs (set ms v true)) (set_falls ms v) (marking_falls vs (set ms v true))

sent_here : (ls : List Link) (ms : List Bool) (i : ℕ) → i < length ls → (link_at ls i).child < length ms → Marked (marking (map child_of ls) ms) (link_at ls i).child
sent_here [] ms i l c = absurd (omega arith)
sent_here (x ∷ ls) ms zero l c = marking_grows (map child_of ls) (set ms x.child true) x.child (set_here ms x.child c)
sent_here (x ∷ ls) ms (suc i) l c = sent_here ls (set ms x.child true) i (omega arith) (omega (arith, c, length-set ms x.child true))

sent_cases : (ls : List Link) (ms : List Bool) (w : ℕ) → Marked (marking (map child_of ls) ms) w → Marked ms w ⊎ Sent ls (length ls) w
sent_cases [] ms w m = inl m
sent_cases (x ∷ ls) ms w m =
    ⊎_elim (λ o. ⊎_elim (λ same. inr (0, omega arith, sym same)) (λ old. inl old) (set_cases ms x.child w o))
    (λ s. inr (suc s.0, omega (arith, s.1), s.2))
    (sent_cases ls (set ms x.child true) w m)

root_here : (nodes : List Node) (roots : List ℕ) (ms : List Bool) (w : ℕ) → Marked (marking roots ms) w → Marked ms w ⊎ Reached nodes roots w
root_here nodes [] ms w m = inl m
root_here nodes (r ∷ roots) ms w m =
    ⊎_elim (λ o. ⊎_elim (λ same. inr (inl (subst (λ (u : ℕ). Reach nodes r u) (sym same) here))) (λ old. inl old) (set_cases ms r w o))
    (λ s. inr (inr s))
    (root_here nodes roots (set ms r true) w m)

-- the children of one vertex
length-follow : (b : Bool) (x : Node) (ms : List Bool) → length (follow b x ms) ≡ length ms
length-follow true x ms = length-marking (children x) ms
length-follow false x ms = refl

follow_grows : (b : Bool) (x : Node) (ms : List Bool) (w : ℕ) → Marked ms w → Marked (follow b x ms) w
follow_grows true x ms w m = marking_grows (children x) ms w m
follow_grows false x ms w m = m

follow_falls : (b : Bool) (x : Node) (ms : List Bool) → Falls ms (follow b x ms)
follow_falls true x ms = marking_falls (children x) ms
follow_falls false x ms = inl refl

follow_here : (b : Bool) (x : Node) (ms : List Bool) (i : ℕ) → b ≡ true → i < length x.links → (link_at x.links i).child < length ms → Marked (follow b x ms) (link_at x.links i).child
follow_here true x ms i e l c = sent_here x.links ms i l c
follow_here false x ms i e l c = absurd (false≢true e)

follow_cases : (b : Bool) (x : Node) (ms : List Bool) (w : ℕ) → Marked (follow b x ms) w → Marked ms w ⊎ ((b ≡ true) × Sent x.links (length x.links) w)
follow_cases true x ms w m = ⊎_elim (λ o. inl o) (λ s. inr (refl, s)) (sent_cases x.links ms w m)
follow_cases false x ms w m = inl m

-- once over all vertices
length-sweep : (v : ℕ) (xs : List Node) (ms : List Bool) → length (sweep v xs ms) ≡ length ms
length-sweep v [] ms = refl
length-sweep v (x ∷ xs) ms = length-sweep (suc v) xs _ ∙ length-follow (get_or ms v false) x ms

sweep_grows : (v : ℕ) (xs : List Node) (ms : List Bool) (w : ℕ) → Marked ms w → Marked (sweep v xs ms) w
sweep_grows v [] ms w m = m
sweep_grows v (x ∷ xs) ms w m = sweep_grows (suc v) xs _ w (follow_grows (get_or ms v false) x ms w m)

sweep_falls : (v : ℕ) (xs : List Node) (ms : List Bool) → Falls ms (sweep v xs ms)
sweep_falls v [] ms = inl refl
sweep_falls v (x ∷ xs) ms =
    let ns = follow (get_or ms v false) x ms in
    falls_on ms ns (sweep (suc v) xs ns) (follow_falls (get_or ms v false) x ms) (sweep_falls (suc v) xs ns)

sweep_child : (v : ℕ) (xs : List Node) (ms : List Bool) (k w : ℕ) → k < length xs → Marked ms (v + k) → Leads xs k w → w < length ms → Marked (sweep v xs ms) w
sweep_child v [] ms k w l m e c = absurd (omega arith)
sweep_child v (x ∷ xs) ms zero w l m e c =
    let same : v + 0 ≡ v = omega arith in
    sweep_grows (suc v) xs _ w (subst (Marked (follow (get_or ms v false) x ms)) e.2 (follow_here (get_or ms v false) x ms e.0 (subst (Marked ms) same m) e.1 (omega (arith, e.2))))
sweep_child v (x ∷ xs) ms (suc k) w l m e c =
    let same : v + suc k ≡ suc v + k = omega arith in
    let ns = follow (get_or ms v false) x ms in
    sweep_child (suc v) xs ns k w (omega arith) (follow_grows (get_or ms v false) x ms (suc v + k) (subst (Marked ms) same m)) e (omega (arith, length-follow (get_or ms v false) x ms))

-- a set that is closed under the links holds all marks that come
sweep_stays : (S : ℕ → Type 0) (v : ℕ) (xs : List Node) → ((k w : ℕ) → S (v + k) → Leads xs k w → S w) → (ms : List Bool) → ((w : ℕ) → Marked ms w → S w) → (w : ℕ) → Marked (sweep v xs ms) w → S w
sweep_stays S v [] shut ms h w m = h w m
sweep_stays S v (x ∷ xs) shut ms h w m =
    let same : v ≡ v + 0 = omega arith in
    sweep_stays S (suc v) xs
    (λ k u s e. let on : suc v + k ≡ v + suc k = omega arith in shut (suc k) u (subst S on s) e)
    (follow (get_or ms v false) x ms)
    (λ u n. ⊎_elim (h u) (λ p. shut 0 u (subst S same (h v p.0)) p.1) (follow_cases (get_or ms v false) x ms u n))
    w m

-- many times over
length-spread : (n : ℕ) (nodes : List Node) (ms : List Bool) → length (spread n nodes ms) ≡ length ms
length-spread zero nodes ms = refl
length-spread (suc n) nodes ms = length-spread n nodes (sweep 0 nodes ms) ∙ length-sweep 0 nodes ms

spread_grows : (n : ℕ) (nodes : List Node) (ms : List Bool) (w : ℕ) → Marked ms w → Marked (spread n nodes ms) w
spread_grows zero nodes ms w m = m
spread_grows (suc n) nodes ms w m = spread_grows n nodes (sweep 0 nodes ms) w (sweep_grows 0 nodes ms w m)

spread_stays : (S : ℕ → Type 0) (n : ℕ) (nodes : List Node) → ((u v : ℕ) → S u → Leads nodes u v → S v) → (ms : List Bool) → ((w : ℕ) → Marked ms w → S w) → (w : ℕ) → Marked (spread n nodes ms) w → S w
spread_stays S zero nodes shut ms h = h
spread_stays S (suc n) nodes shut ms h =
    spread_stays S n nodes shut (sweep 0 nodes ms) (sweep_stays S 0 nodes (λ k w s e. let same : 0 + k ≡ k = omega arith in shut k w (subst S same s) e) ms h)

spread_still : (n : ℕ) (nodes : List Node) (ms : List Bool) → sweep 0 nodes ms ≡ ms → spread n nodes ms ≡ ms
spread_still zero nodes ms e = refl
spread_still (suc n) nodes ms e = ap (spread n nodes) e ∙ spread_still n nodes ms e

-- past the last vertex there are no links
leads_from : (nodes : List Node) (u v : ℕ) → Leads nodes u v → u < length nodes
leads_from nodes u v e =
    ⊎_elim (λ l. l) (λ past. let none = ap (λ (x : Node). length x.links) (get_or_past nodes u no_node past) in absurd (omega (arith, e.1, none))) (cases_lt u (length nodes))

leads_to : (nodes : List Node) → SoundObjects nodes → (u v : ℕ) → Leads nodes u v → v < length nodes
leads_to nodes sound u v e = omega (arith, ((sound u (leads_from nodes u v e)).1 e.0 e.1).0, e.2)

-- each time marks something, or leaves all as it is: so as many times as there are unmarked vertices suffice
settles : (n : ℕ) (nodes : List Node) (ms : List Bool) → SoundObjects nodes → length nodes ≤ length ms → unmarked ms ≤ n → Closed nodes (spread n nodes ms)
settles zero nodes ms sound long few = λ u v m e. all_marked ms v (omega arith) (omega (arith, leads_to nodes sound u v e))
settles (suc n) nodes ms sound long few =
    ⊎_elim
    (λ e. subst (Closed nodes) (sym (ap (spread n nodes) e ∙ spread_still n nodes ms e)) (λ u v m d.
    let same : u ≡ 0 + u = omega arith in
    subst (λ (ns : List Bool). Marked ns v) e (sweep_child 0 nodes ms u v (leads_from nodes u v d) (subst (Marked ms) same m) d (omega (arith, leads_to nodes sound u v d)))))
    (λ lt. settles n nodes (sweep 0 nodes ms) sound (omega (arith, length-sweep 0 nodes ms)) (omega arith))
    (sweep_falls 0 nodes ms)

start_long : (nodes : List Node) (roots : List ℕ) → length (marking roots (replicate (length nodes) false)) ≡ length nodes
start_long nodes roots = length-marking roots (replicate (length nodes) false) ∙ length-replicate (length nodes) false

pub reached_long : (nodes : List Node) (roots : List ℕ) → length (reached nodes roots) ≡ length nodes
unfolding reached
reached_long nodes roots = length-spread (length nodes) nodes _ ∙ start_long nodes roots

pub reached_only : (nodes : List Node) (roots : List ℕ) (w : ℕ) → Marked (reached nodes roots) w → Reached nodes roots w
unfolding reached
reached_only nodes roots =
    spread_stays (Reached nodes roots) (length nodes) nodes (reached_on nodes roots) (marking roots (replicate (length nodes) false))
    (λ w m. ⊎_elim (λ o. absurd (none_marked (length nodes) w o)) (λ r. r) (root_here nodes roots _ w m))

reached_closed : (nodes : List Node) → SoundObjects nodes → (roots : List ℕ) → Closed nodes (reached nodes roots)
unfolding reached
reached_closed nodes sound roots =
    let start = marking roots (replicate (length nodes) false) in
    settles (length nodes) nodes start sound (omega (arith, start_long nodes roots)) (omega (arith, unmarked_le start, start_long nodes roots))

-- from no vertex only it itself is reached
reach_past : {nodes : List Node} {v w : ℕ} → length nodes ≤ v → Reach nodes v w → v ≡ w
reach_past past here = refl
reach_past {nodes} past (step {u = u} {v = v} e r) = absurd (omega (arith, leads_from nodes u v e))

-- closed marks that hold all of these roots that are vertices hold all that they reach
roots_hold : (nodes : List Node) (roots : List ℕ) (start ms : List Bool) → length start ≡ length nodes → Closed nodes ms → ((w : ℕ) → Marked (marking roots start) w → Marked ms w)
    → (w : ℕ) → w < length nodes → Reached nodes roots w → Marked ms w
roots_hold nodes [] start ms long shut h w l r = absurd r
roots_hold nodes (v ∷ roots) start ms long shut h w l (inl r) =
    ⊎_elim
    (λ lt. follows ms shut r (h v (marking_grows roots (set start v true) v (set_here start v (omega arith)))))
    (λ past. absurd (omega (arith, reach_past past r)))
    (cases_lt v (length nodes))
roots_hold nodes (v ∷ roots) start ms long shut h w l (inr r) = roots_hold nodes roots (set start v true) ms (length-set start v true ∙ long) shut h w l r

reached_all : (nodes : List Node) → SoundObjects nodes → (roots : List ℕ) (w : ℕ) → w < length nodes → Reached nodes roots w → Marked (reached nodes roots) w
unfolding reached
reached_all nodes sound roots =
    roots_hold nodes roots (replicate (length nodes) false) (reached nodes roots) (length-replicate (length nodes) false) (reached_closed nodes sound roots) (spread_grows (length nodes) nodes (marking roots (replicate (length nodes) false)))

pub reached_right : ReachedRight
reached_right nodes sound roots w l = (reached_only nodes roots w, reached_all nodes sound roots w l)
