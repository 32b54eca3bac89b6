-- A plan is carried out subtable by subtable.
use Rattle.std.proofs.Common.{◌≡◌, ℕ, suc, ◌+◌, ◌*◌, ◌<◌, List, [], ◌∷◌, ◌++◌, map, length, set, sym, refl, ap, ◌∙◌, subst, inl, inr, zero-add, arith}
use Rattle.std.proofs.lemmas.List.{append_assoc, set-set, length-set}
use Rattle.std.proofs.lemmas.List.Sums.{sum_by-cons}
use Rattle.std.proofs.lemmas.Bool.{eq-eqb, ne_eqb, cond-true, cond-false, cases_eq}
use Rattle.serialize.specs.Objects.{Node}
use Rattle.cutting.specs.Cutting.{Cutting}
use Rattle.coverage_writers.specs.Writing.{Lawful}
use Rattle.markbase.specs.declared.lookup_type.LookupType.{LookupType}
use Rattle.markbase.specs.declared.lookup_type.LookupType.TheVariants.{MarkToBase, Extension}
use Rattle.markbase.specs.Values.{Subtable}
use Rattle.lookups.specs.Tables.{Fields}
use Rattle.written.specs.Writing.{as_lookup, vertex_of}
use Rattle.splitting.specs.Vertices.{Meaning, top_of}
use Rattle.splitting.specs.Cuts.{Plan}
use Rattle.splitting.specs.Leaving.{pieces_of, cut, cut_all, piece_vertices, subtables_left, new_count, with_subtables, fields_left, left_by}
use Rattle.splitting.specs.Needs.{piece_links, need_of}
use Rattle.splitting.specs.Standing.{Stands}
use Rattle.splitting.specs.Laws.{Cuts, CuttingStands}
use Rattle.splitting.proofs.Journey.{Journey, stays, onward}
use Rattle.splitting.proofs.Placing as placed
use Rattle.splitting.proofs.Placing.{same_cut}
use Rattle.splitting.proofs.Apart.{distinct_four}
use Rattle.splitting.proofs.Owned.{owned}
use Rattle.written.proofs.Leads.{links_lead}
use Rattle.splitting.proofs.Step as step
use Rattle.splitting.proofs.Arriving.{arrives}

-- the subtables of a plan
abbrev whole : Plan → List Subtable
whole plan = map (λ (c : Subtable × List ℕ). c.0) plan

-- the lookup with these subtables
abbrev lookup_with : Fields → LookupType → List Subtable → Node
lookup_with g kind us = vertex_of (as_lookup (with_subtables g kind us))

-- the fields are those of the subtables that stand
fields_same : (g : Fields) (ts : List Subtable) → g.offsets ≡ map top_of ts → with_subtables g g.kind ts ≡ g
fields_same g ts e = λ i. record { kind = g.kind; flag = g.flag; offsets = sym e i; filter = g.filter }

-- from n vertices, of which c has the lookup written anew, with some subtables done
pub record Walked (w : Meaning) (v : ℕ) (g : Fields) (n c : List Node) (done : List Subtable) (plan : Plan) : Type 0 where
  pub end : List Node
  pub still : new_count plan ≡ 0 → (end ≡ c) × (cut_all w g.kind n plan ≡ n) × (subtables_left g.kind (length n) plan ≡ whole plan)
  pub moved : 0 < new_count plan → end ≡ set (cut_all w g.kind n plan) v (lookup_with g g.kind (done ++ subtables_left g.kind (length n) plan))
  pub stands : Stands end v (with_subtables g g.kind (done ++ subtables_left g.kind (length n) plan)) (done ++ subtables_left g.kind (length n) plan)
  pub journey : Journey c end v (done ++ whole plan) (done ++ subtables_left g.kind (length n) plan) (piece_vertices g.kind * new_count plan) (piece_links g.kind * new_count plan)

-- the same numbers by other words
resized : {nodes nodes' : List Node} {v : ℕ} {ts us : List Subtable} {a b x y : ℕ} → a ≡ b → x ≡ y → Journey nodes nodes' v ts us a x → Journey nodes nodes' v ts us b y
resized {nodes} {nodes'} {v} {ts} {us} {a} {b} {x} {y} e d j = subst (λ (m : ℕ). Journey nodes nodes' v ts us m y) e (subst (λ (m : ℕ). Journey nodes nodes' v ts us a m) d j)

vertices_add : (kind : LookupType) (a b : ℕ) → piece_vertices kind * a + piece_vertices kind * b ≡ piece_vertices kind * (a + b)
vertices_add MarkToBase a b = omega arith
vertices_add Extension a b = omega arith

links_add : (kind : LookupType) (a b : ℕ) → piece_links kind * a + piece_links kind * b ≡ piece_links kind * (a + b)
links_add MarkToBase a b = omega arith
links_add Extension a b = omega arith

module _ (w : Meaning) (lawful : Lawful w) (v : ℕ) where
  -- nothing is planned
  none_walked : (g : Fields) (n c : List Node) (done : List Subtable) → Stands c v g (done ++ []) → Walked w v g n c done []
  none_walked g n c done s = record {
    end = c;
    still = λ z. (refl, refl, refl);
    moved = λ z. absurd (omega arith);
    stands = subst (λ (h : Fields). Stands c v h (done ++ [])) (sym (fields_same g (done ++ []) s.offsets)) s;
    journey = by g.kind;
  }
    where
      by : (kind : LookupType) → Journey c c v (done ++ []) (done ++ []) (piece_vertices kind * 0) (piece_links kind * 0)
      by kind = let a : 0 ≡ piece_vertices kind * 0 = omega arith in let b : 0 ≡ piece_links kind * 0 = omega arith in resized a b (stays c v (done ++ []))

  -- one subtable is left as it is
  uncut_walked : (g : Fields) (n c : List Node) (done : List Subtable) (t : Subtable) (plan : Plan) → Walked w v g n c (done ++ t ∷ []) plan → Walked w v g n c done ((t, []) ∷ plan)
  uncut_walked g n c done t plan r =
      let same = λ (ts : List Subtable). append_assoc done (t ∷ []) ts in
      let none : piece_vertices g.kind * 0 ≡ 0 = omega arith in
      let at : length n + piece_vertices g.kind * 0 ≡ length n = omega arith in
      let count : new_count ((t, []) ∷ plan) ≡ new_count plan = sum_by-cons (λ (c : Subtable × List ℕ). length c.1) (t, []) plan ∙ zero-add (new_count plan) in
      let us : subtables_left g.kind (length n) ((t, []) ∷ plan) ≡ t ∷ subtables_left g.kind (length n) plan = ap (λ (m : ℕ). t ∷ subtables_left g.kind m plan) at in
      let all : (done ++ t ∷ []) ++ subtables_left g.kind (length n) plan ≡ done ++ subtables_left g.kind (length n) ((t, []) ∷ plan) = same (subtables_left g.kind (length n) plan) ∙ ap (λ (ts : List Subtable). done ++ ts) (sym us) in
      record {
        end = r.end;
        still = λ z. let k = r.still (sym count ∙ z) in (k.0, k.1, us ∙ ap (λ (ts : List Subtable). t ∷ ts) k.2);
        moved = λ z. r.moved (subst (λ (m : ℕ). 0 < m) count z) ∙ ap (λ (ts : List Subtable). set (cut_all w g.kind n plan) v (lookup_with g g.kind ts)) all;
        stands = subst (λ (ts : List Subtable). Stands r.end v (with_subtables g g.kind ts) ts) all r.stands;
        journey = resized (ap (λ (m : ℕ). piece_vertices g.kind * m) (sym count)) (ap (λ (m : ℕ). piece_links g.kind * m) (sym count))
            (subst (λ (ts : List Subtable). Journey c r.end v ts (done ++ subtables_left g.kind (length n) ((t, []) ∷ plan)) (piece_vertices g.kind * new_count plan) (piece_links g.kind * new_count plan)) (same (whole plan))
            (subst (λ (ts : List Subtable). Journey c r.end v ((done ++ t ∷ []) ++ whole plan) ts (piece_vertices g.kind * new_count plan) (piece_links g.kind * new_count plan)) all r.journey));
      }

  -- one subtable is cut at p and at qs, and then the others
  cut_walked : (g : Fields) (n c : List Node) (done : List Subtable) (t : Subtable) (p : ℕ) (qs : List ℕ) (plan : Plan) → length n ≡ length c → ((y : Node) → set c v y ≡ set n v y)
      → (s : Stands c v g (done ++ t ∷ whole plan)) → (cuts : Cutting 0 t.table.class_count (p ∷ qs)) → length n + piece_vertices g.kind * suc (length qs) < 65536
      → ((g' : Fields) (n' c' : List Node) (done' : List Subtable) → g'.kind ≡ g.kind → length n' ≡ length n + piece_vertices g.kind * suc (length qs) → length n' ≡ length c' → ((y : Node) → set c' v y ≡ set n' v y) → Stands c' v g' (done' ++ whole plan) → Walked w v g' n' c' done' plan)
      → Walked w v g n c done ((t, p ∷ qs) ∷ plan)
  cut_walked g n c done t p qs plan long same s cuts room rest =
      record {
        end = r.end;
        still = λ z. absurd (omega (arith, count));
        moved = λ z. elim (cases_eq (new_count plan) 0) [ inl none ↦ last none | inr some ↦ r.moved (omega arith) ∙ ap (λ (ts : List Subtable). set (cut_all w g.kind n1 plan) v (lookup_with g g.kind ts)) all ];
        stands = subst (λ (ts : List Subtable). Stands r.end v (with_subtables g g.kind ts) ts) all r.stands;
        journey = resized (vertices_add g.kind (suc (length qs)) (new_count plan) ∙ ap (λ (m : ℕ). piece_vertices g.kind * m) (sym count)) (links_add g.kind (suc (length qs)) (new_count plan) ∙ ap (λ (m : ℕ). piece_links g.kind * m) (sym count))
            (onward first (subst (λ (ts : List Subtable). Journey c1 r.end v (here ++ whole plan) ts (piece_vertices g.kind * new_count plan) (piece_links g.kind * new_count plan)) all r.journey));
      }
    where
      parts : List Subtable
      parts = pieces_of g.kind (length c) t (p ∷ qs)

      here : List Subtable
      here = done ++ parts

      g1 : Fields
      g1 = with_subtables g g.kind (done ++ (parts ++ whole plan))

      n1 : List Node
      n1 = cut w g.kind n t (p ∷ qs)

      c1 : List Node
      c1 = set (cut w g.kind c t (p ∷ qs)) v (vertex_of (as_lookup g1))

      there : v < length n
      there = omega (arith, s.here)

      again : (y : Node) → set (cut w g.kind c t (p ∷ qs)) v y ≡ set n1 v y
      again = same_cut w g.kind v t p qs n c long same (distinct_four c v done t (whole plan) (owned links_lead s)) there

      long1 : length n1 ≡ length n + piece_vertices g.kind * suc (length qs)
      long1 = sym (length-set n1 v (vertex_of (as_lookup g1))) ∙ placed.long w g.kind n v t p qs (vertex_of (as_lookup g1))

      longer : length n1 ≡ length c1
      longer = omega (arith, long1, placed.long w g.kind c v t p qs (vertex_of (as_lookup g1)))

      regroup : (ts : List Subtable) → here ++ ts ≡ done ++ (parts ++ ts)
      regroup ts = append_assoc done parts ts

      r : Walked w v g1 n1 c1 here plan
      r =
          rest g1 n1 c1 here refl long1 longer (λ y. set-set (cut w g.kind c t (p ∷ qs)) v (vertex_of (as_lookup g1)) y ∙ again y)
          (subst (Stands c1 v g1) (sym (regroup (whole plan))) (step.stands w lawful c v g done t (whole plan) s p qs cuts (omega (arith, room))))

      first : Journey c c1 v (done ++ t ∷ whole plan) (here ++ whole plan) (piece_vertices g.kind * suc (length qs)) (piece_links g.kind * suc (length qs))
      first =
          subst (λ (ts : List Subtable). Journey c c1 v (done ++ t ∷ whole plan) ts (piece_vertices g.kind * suc (length qs)) (piece_links g.kind * suc (length qs))) (sym (regroup (whole plan)))
          (step.journey w lawful c v g done t (whole plan) s p qs cuts)

      count : new_count ((t, p ∷ qs) ∷ plan) ≡ suc (length qs) + new_count plan
      count = sum_by-cons (λ (c : Subtable × List ℕ). length c.1) (t, p ∷ qs) plan

      all : here ++ subtables_left g.kind (length n1) plan ≡ done ++ subtables_left g.kind (length n) ((t, p ∷ qs) ∷ plan)
      all =
          regroup (subtables_left g.kind (length n1) plan)
          ∙ (ap (λ (m : ℕ). done ++ (pieces_of g.kind m t (p ∷ qs) ++ subtables_left g.kind (length n1) plan)) (sym long)
          ∙ ap (λ (m : ℕ). done ++ (pieces_of g.kind (length n) t (p ∷ qs) ++ subtables_left g.kind m plan)) long1)

      last : new_count plan ≡ 0 → r.end ≡ set (cut_all w g.kind n1 plan) v (lookup_with g g.kind (done ++ subtables_left g.kind (length n) ((t, p ∷ qs) ∷ plan)))
      last none =
          let k = r.still none in
          k.0
          ∙ (again (vertex_of (as_lookup g1))
          ∙ (ap (λ (xs : List Node). set xs v (vertex_of (as_lookup g1))) (sym k.1)
          ∙ ap (λ (ts : List Subtable). set (cut_all w g.kind n1 plan) v (lookup_with g g.kind ts)) (sym (regroup (whole plan)) ∙ (ap (λ (ts : List Subtable). here ++ ts) (sym k.2) ∙ all))))

  -- every plan, from any vertices that differ at the lookup at most
  walked : (plan : Plan) (g : Fields) (n c : List Node) (done : List Subtable) → length n ≡ length c → ((y : Node) → set c v y ≡ set n v y) → Stands c v g (done ++ whole plan) → Cuts plan
      → length n + piece_vertices g.kind * new_count plan < 65536 → Walked w v g n c done plan
  walked [] g n c done long same s cuts room = none_walked g n c done s
  walked ((t, []) ∷ plan) g n c done long same s cuts room =
      uncut_walked g n c done t plan
      (walked plan g n c (done ++ t ∷ []) long same (subst (Stands c v g) (sym (append_assoc done (t ∷ []) (whole plan))) s) cuts.1
      (omega (arith, room, ap (λ (m : ℕ). piece_vertices g.kind * m) (sum_by-cons (λ (c : Subtable × List ℕ). length c.1) (t, []) plan ∙ zero-add (new_count plan)))))
  walked ((t, p ∷ qs) ∷ plan) g n c done long same s cuts room =
      let count = ap (λ (m : ℕ). piece_vertices g.kind * m) (sum_by-cons (λ (c : Subtable × List ℕ). length c.1) (t, p ∷ qs) plan) in
      let sum = vertices_add g.kind (suc (length qs)) (new_count plan) in
      cut_walked g n c done t p qs plan long same s cuts.0 (omega (arith, room, count, sum))
      (λ g' n' c' done' kind more long' same' s'. walked plan g' n' c' done' long' same' s' cuts.1 (omega (arith, room, count, sum, more, ap (λ (k : LookupType). piece_vertices k * new_count plan) kind)))

-- cutting as planned, from the lookup as it stands
pub cutting_stands_lem : CuttingStands
cutting_stands_lem w lawful nodes v f ts s plan same cuts room =
    arrives nodes (left_by w nodes v f plan) v f (fields_left nodes f plan) ts (subtables_left f.kind (length nodes) plan) (need_of w nodes v f plan) s
    (subst (λ (xs : List Node). Stands xs v (fields_left nodes f plan) (subtables_left f.kind (length nodes) plan)) end r.stands)
    (subst (λ (us : List Subtable). Journey nodes (left_by w nodes v f plan) v us (subtables_left f.kind (length nodes) plan) (piece_vertices f.kind * new_count plan) (piece_links f.kind * new_count plan)) same
    (subst (λ (xs : List Node). Journey nodes xs v (whole plan) (subtables_left f.kind (length nodes) plan) (piece_vertices f.kind * new_count plan) (piece_links f.kind * new_count plan)) end r.journey))
  where
    r : Walked w v f nodes nodes [] plan
    r = walked w lawful v plan f nodes nodes [] refl (λ y. refl) (subst (Stands nodes v f) (sym same) s) cuts room

    end : r.end ≡ left_by w nodes v f plan
    end =
        elim (cases_eq (new_count plan) 0) [
          | inl none ↦ (r.still none).0 ∙ sym (cond-true _ _ _ (eq-eqb (new_count plan) 0 none))
          | inr some ↦ r.moved (omega arith) ∙ sym (cond-false _ _ _ (ne_eqb (new_count plan) 0 some))
        ]
