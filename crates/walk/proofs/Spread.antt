-- How marks spread over the links, in small steps.
use Rattle.std.proofs.Common.{◌≡◌, ℕ, ◌+◌, ◌<◌, Bool, true, ◌⊎◌, List, [], ◌∷◌, ◌++◌, length, set, sym, refl, ap, ◌∙◌, subst, inl, inr, ⊎_elim, arith}
use Rattle.std.proofs.lemmas.Bool.{cases_eq}
use Rattle.serialize.specs.declared.link.Link.{Link}
use Rattle.serialize.specs.Objects.{Node, link_at, links_at}
use Rattle.walk.specs.Reach.{Leads, Reach, here, step, Reached, Marked, Clear, Free, end, by, Spreads, Closed, Adds, Shows}
use Rattle.walk.proofs.Marking.{marked?, set_cases, set_here, set_keeps, clear_none}

abbrev pub Only : ℕ → ℕ → Type 0
Only v w = w ≡ v

-- what comes to the marks from the roots S, in four parts that are easy to carry from turn to turn
pub record Swept (nodes : List Node) (ms : List Bool) (S : ℕ → Type 0) (ns : List Bool) : Type 0 where
  pub grows : (w : ℕ) → Marked ms w → Marked ns w
  pub comes : (w : ℕ) → Marked ns w → Marked ms w ⊎ ((r : ℕ) × S r × Free nodes ms r w)
  pub shut : (w : ℕ) → Marked ns w → Marked ms w ⊎ ((x : ℕ) → Leads nodes w x → Marked ns x)
  pub roots : (r : ℕ) → S r → Marked ns r

-- a path that avoids more marks avoids fewer
freer : {nodes : List Node} {ms ns : List Bool} {v w : ℕ} → ((x : ℕ) → Marked ms x → Marked ns x) → Free nodes ns v w → Free nodes ms v w
freer grows (end {v = v} new) = end (λ h. new (grows v h))
freer grows (by {u = u} new e f) = by (λ h. new (grows u h)) e (freer grows f)

further : {nodes : List Node} {ms : List Bool} {v w x : ℕ} → Free nodes ms v w → Leads nodes w x → (Marked ms x → ⊥) → Free nodes ms v x
further (end new) e last = by new e (end last)
further (by new d f) e last = by new d (further f e last)

along : {nodes : List Node} {ms ns : List Bool} {S : ℕ → Type 0} {v w : ℕ} → Swept nodes ms S ns → Free nodes ms v w → Marked ns v → Marked ns w
along s (end new) m = m
along s (by {u = u} {v = v} new e f) m = along s f (⊎_elim (λ old. absurd (new old)) (λ kids. kids v e) (s.shut u m))

pub spreads : {nodes : List Node} {ms ns : List Bool} {v : ℕ} → Swept nodes ms (Only v) ns → Spreads nodes ms v ns
spreads {nodes} {ms} {ns} {v} s w = (
  λ m. ⊎_elim (λ o. inl o) (λ p. inr (subst (λ (u : ℕ). Free nodes ms u w) p.1 p.2)) (s.comes w m),
  ⊎_elim (s.grows w) (λ f. along s f (s.roots v refl)),
)

pub swept : {nodes : List Node} {ms ns : List Bool} {v : ℕ} → Spreads nodes ms v ns → Swept nodes ms (Only v) ns
swept {nodes} {ms} {ns} {v} h =
    record {
      grows = λ w m. (h w).1 (inl m);
      comes = λ w m. ⊎_elim (λ o. inl o) (λ f. inr (v, refl, f)) ((h w).0 m);
      shut = λ w m. ⊎_elim (λ old. inl old) (λ f. inr (λ x e. ⊎_elim (λ old. (h x).1 (inl old)) (λ new. (h x).1 (inr (further f e new))) (marked? ms x))) ((h w).0 m);
      roots = λ r same. subst (Marked ns) (sym same) (⊎_elim (λ old. (h v).1 (inl old)) (λ new. (h v).1 (inr (end new))) (marked? ms v));
    }

pub nowhere : {nodes : List Node} {ms : List Bool} {S : ℕ → Type 0} → ((r : ℕ) → S r → Marked ms r) → Swept nodes ms S ms
nowhere h = record { grows = λ w m. m; comes = λ w m. inl m; shut = λ w m. inl m; roots = h }

join : {nodes : List Node} {ms ns ks : List Bool} {S R U : ℕ → Type 0}
    → ((r : ℕ) → U r → S r ⊎ R r) → ((r : ℕ) → S r → U r) → ((r : ℕ) → R r → U r)
    → Swept nodes ms S ns → Swept nodes ns R ks → Swept nodes ms U ks
join split left right a b =
    record {
      grows = λ w m. b.grows w (a.grows w m);
      comes = λ w m.
          ⊎_elim (λ n. ⊎_elim (λ o. inl o) (λ p. inr (p.0, left p.0 p.1, p.2)) (a.comes w n))
          (λ p. inr (p.0, right p.0 p.1, freer a.grows p.2)) (b.comes w m);
      shut = λ w m.
          ⊎_elim (λ n. ⊎_elim (λ o. inl o) (λ kids. inr (λ x e. b.grows x (kids x e))) (a.shut w n))
          (λ kids. inr kids) (b.shut w m);
      roots = λ r u. ⊎_elim (λ s. b.grows r (a.roots r s)) (b.roots r) (split r u);
    }

-- the children that the first n links lead to
abbrev pub Sent : List Link → ℕ → ℕ → Type 0
Sent links n r = (i : ℕ) × (i < n) × ((link_at links i).child ≡ r)

-- one more link
pub sent_more : {nodes : List Node} {ms ns ks : List Bool} (links : List Link) (n : ℕ)
    → Swept nodes ms (Sent links n) ns → Swept nodes ns (Only (link_at links n).child) ks → Swept nodes ms (Sent links (n + 1)) ks
sent_more links n =
    join (λ r s. ⊎_elim (λ same. inr (sym s.2 ∙ ap (λ (j : ℕ). (link_at links j).child) same)) (λ ne. inl (s.0, omega (arith, s.1, ne), s.2)) (cases_eq s.0 n))
    (λ r s. (s.0, omega (arith, s.1), s.2))
    (λ r same. (n, omega arith, sym same))

-- all links of v, once v itself is marked
pub whole : {nodes : List Node} {ms ks : List Bool} (v : ℕ) → v < length ms → (Marked ms v → ⊥)
    → Swept nodes (set ms v true) (Sent (links_at nodes v) (length (links_at nodes v))) ks → Swept nodes ms (Only v) ks
whole {nodes} {ms} {ks} v lt new s =
    record {
      grows = λ w m. s.grows w (set_keeps ms v w m);
      comes = λ w m.
          ⊎_elim (λ old. ⊎_elim (λ same. inr (v, refl, subst (λ (u : ℕ). Free nodes ms v u) (sym same) (end new))) (λ o. inl o) (set_cases ms v w old))
          (λ p. inr (v, refl, by new p.1 (freer (λ x. set_keeps ms v x) p.2)))
          (s.comes w m);
      shut = λ w m.
          ⊎_elim (λ old. ⊎_elim (λ same. inr (subst (λ (u : ℕ). (x : ℕ) → Leads nodes u x → Marked ks x) (sym same) s.roots)) (λ o. inl o) (set_cases ms v w old))
          (λ k. inr k) (s.shut w m);
      roots = λ r same. subst (Marked ks) (sym same) (s.grows v (set_here ms v lt));
    }

reaches : {nodes : List Node} {ms : List Bool} {v w : ℕ} → Free nodes ms v w → Reach nodes v w
reaches (end new) = here
reaches (by new e f) = step e (reaches f)

-- closed marks go with what is reached
pub follows : {nodes : List Node} {v w : ℕ} (ms : List Bool) → Closed nodes ms → Reach nodes v w → Marked ms v → Marked ms w
follows ms shut here m = m
follows ms shut (step {u = u} {v = v} e r) m = follows ms shut r (shut u v m e)

-- where the marks are closed, what is reached is reached over unmarked vertices, or is marked already
pub adds : {nodes : List Node} {ms ns : List Bool} (v : ℕ) → Swept nodes ms (Only v) ns → Closed nodes ms → Adds nodes ms v ns
adds {nodes} {ms} {ns} v s shut w =
    let closed : Closed nodes ns = λ u x m e. ⊎_elim (λ old. s.grows x (shut u x old e)) (λ kids. kids x e) (s.shut u m) in (
      λ m. ⊎_elim (λ o. inl o) (λ p. inr (subst (λ (u : ℕ). Reach nodes u w) p.1 (reaches p.2))) (s.comes w m),
      ⊎_elim (s.grows w) (λ r. follows ns closed r (s.roots v refl)),
    )

reach_on : {nodes : List Node} {u v w : ℕ} → Reach nodes u v → Leads nodes v w → Reach nodes u w
reach_on here e = step e here
reach_on (step d p) e = step d (reach_on p e)

-- what is reached leads to what is reached
pub reached_on : (nodes : List Node) (roots : List ℕ) (u v : ℕ) → Reached nodes roots u → Leads nodes u v → Reached nodes roots v
reached_on nodes [] u v s e = s
reached_on nodes (r ∷ roots) u v (inl s) e = inl (reach_on s e)
reached_on nodes (r ∷ roots) u v (inr s) e = inr (reached_on nodes roots u v s e)

pub shows_closed : (nodes : List Node) (roots : List ℕ) (ms : List Bool) → Shows nodes roots ms → Closed nodes ms
shows_closed nodes roots ms h u v m e = (h v).1 (reached_on nodes roots u v ((h u).0 m) e)

-- one root more
reached_more : (nodes : List Node) (roots : List ℕ) (v w : ℕ) → Reached nodes roots w ⊎ Reach nodes v w → Reached nodes (roots ++ v ∷ []) w
reached_more nodes [] v w (inl r) = absurd r
reached_more nodes [] v w (inr r) = inl r
reached_more nodes (x ∷ roots) v w (inl (inl r)) = inl r
reached_more nodes (x ∷ roots) v w (inl (inr r)) = inr (reached_more nodes roots v w (inl r))
reached_more nodes (x ∷ roots) v w (inr r) = inr (reached_more nodes roots v w (inr r))

reached_less : (nodes : List Node) (roots : List ℕ) (v w : ℕ) → Reached nodes (roots ++ v ∷ []) w → Reached nodes roots w ⊎ Reach nodes v w
reached_less nodes [] v w (inl r) = inr r
reached_less nodes [] v w (inr r) = absurd r
reached_less nodes (x ∷ roots) v w (inl r) = inl (inl r)
reached_less nodes (x ∷ roots) v w (inr r) = ⊎_elim (λ s. inl (inr s)) (λ s. inr s) (reached_less nodes roots v w r)

pub shows_more : (nodes : List Node) (roots : List ℕ) (v : ℕ) (ms ns : List Bool) → Shows nodes roots ms → Adds nodes ms v ns → Shows nodes (roots ++ v ∷ []) ns
shows_more nodes roots v ms ns h a w = (
  λ m. reached_more nodes roots v w (⊎_elim (λ o. inl ((h w).0 o)) (λ r. inr r) ((a w).0 m)),
  λ r. (a w).1 (⊎_elim (λ s. inl ((h w).1 s)) (λ s. inr s) (reached_less nodes roots v w r)),
)

-- clear marks show what no root reaches
pub shows_none : (nodes : List Node) (ms : List Bool) → Clear ms → Shows nodes [] ms
shows_none nodes ms clear w = (λ m. clear_none ms clear w m, λ r. absurd r)
