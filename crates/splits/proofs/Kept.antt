-- What every history from an open lookup keeps.
use Rattle.std.proofs.Common.{◌≡◌, ℕ, ◌<◌, ◌≤◌, Bool, cond, ◌&&◌, List, [], ◌∷◌, ◌++◌, length, take, drop, Some, None, Ok, Err, Option, Result, sym, refl, ap, ap₂, ◌∙◌, subst, arith}
use Rattle.std.proofs.lemmas.Bool.{lt-ltb, le-leb}
use Rattle.std.proofs.lemmas.List.{length-append}
use Rattle.std.specs.List.{AllByRecursion}
use Rattle.std.specs.Option.{option_map}
use Rattle.refusal.specs.declared.Shortage.{Shortage}
use Rattle.refusal.specs.declared.Refusal.{Refusal}
use Rattle.refusal.specs.declared.Refusal.TheVariants.{NoSubtable, BadReach, ClassTooLarge, NoRoom}
use Rattle.serialize.specs.Objects.{Node}
use Rattle.graph.specs.Model.{Model as Objects}
use Rattle.cutting.specs.Cutting.{Greedy, NoneFits}
use Rattle.cutting.proofs.Theory.{theory}
use Rattle.coverage_writers.specs.Writing.{Lawful}
use Rattle.markbase.specs.declared.lookup_type.LookupType.{LookupType}
use Rattle.markbase.specs.Values.{Subtable}
use Rattle.lookups.specs.Judging.{or_else}
use Rattle.pieces.proofs.Sizes.{monotone}
use Rattle.splitting.specs.Vertices.{Meaning}
use Rattle.splitting.specs.Cuts.{Plan, cover_length, sizes_of, whole_size, cuts_of, places_in, too_large, uncut, cut_one}
use Rattle.splitting.specs.Leaving.{pieces_of, subtables_left, new_count, fields_left, left_by}
use Rattle.splitting.specs.Needs.{Need, short_of}
use Rattle.splitting.specs.Calls as on
use Rattle.splitting.specs.Calls.{fields_at, subtables_at, bad_place, bad_reach, no_room, split_plan, cut_need}
use Rattle.workspace.specs.Model.{Model}
use Rattle.splits.specs.Splitting.{subtables_of, split_refusal, with_objects, Splits}
use Rattle.splits.specs.Histories.{At, Refuses, Fewest, Keeps}
use Rattle.splits.proofs.Plans.{Well, agreement, picked, one_plan, one_left, one_count}
use Rattle.splits.proofs.Parts.{parts_count, parts_hold, parts_fit}
use Rattle.splits.proofs.Staying.{Open, subtables_read}
use Rattle.splits.proofs.Calls.{or_none, CutSo, cut_model, split_causes, split_so, came}

-- of each of these, and of each of those behind
all_here : {X : Type 0} (P : X → Type 0) (xs : List X) (y : X) (ys : List X) → AllByRecursion P (xs ++ y ∷ ys) → P y
all_here P [] y ys h = h.0
all_here P (x ∷ xs) y ys h = all_here P xs y ys h.1

all_left : {X : Type 0} (P : X → Type 0) (xs ys : List X) → AllByRecursion P (xs ++ ys) → AllByRecursion P xs
all_left P [] ys h = tt
all_left P (x ∷ xs) ys h = (h.0, all_left P xs ys h.1)

all_right : {X : Type 0} (P : X → Type 0) (xs ys : List X) → AllByRecursion P (xs ++ ys) → AllByRecursion P ys
all_right P [] ys h = h
all_right P (x ∷ xs) ys h = all_right P xs ys h.1

-- sizes that stay fit as they did
fit_then : (old new : Subtable → ℕ) (reach : ℕ) (us : List Subtable) → AllByRecursion (λ (u : Subtable). new u ≡ old u) us → AllByRecursion (λ (u : Subtable). old u ≤ reach) us → AllByRecursion (λ (u : Subtable). new u ≤ reach) us
fit_then old new reach [] e h = tt
fit_then old new reach (u ∷ us) e h = (subst (λ (s : ℕ). s ≤ reach) (sym e.0) h.0, fit_then old new reach us e.1 h.1)

-- want of room is no class that is too large
room_not_class : (g : Objects) (n : Need) (place c : ℕ) → no_room g n ≡ Some (ClassTooLarge place c) → ⊥
room_not_class g n place c e = by (short_of g n) e
  where
    by : (x : Option Shortage) → option_map (λ s. NoRoom s) x ≡ Some (ClassTooLarge place c) → ⊥
    by (Some s) h = cc
    by None h = cc

-- the subtable t stands at a place of the lookup that is open at v
module _ (m : Model) (v : ℕ) (o : Open m v) (place : ℕ) (before : List Subtable) (t : Subtable) (after : List Subtable) (a : At m place before t after) where
  abbrev ns : List Node
  ns = m.graph.nodes

  abbrev ts : List Subtable
  ts = subtables_at m.graph.nodes v

  abbrev kind : LookupType
  kind = (fields_at m.graph.nodes v).kind

  abbrev k : ℕ
  k = t.table.class_count

  stand : ts ≡ before ++ t ∷ after
  stand = sym (ap (λ (x : Option ℕ). elim x as (λ _. List Subtable) [ None ↦ [] | Some u ↦ subtables_at m.graph.nodes u ]) o.is) ∙ a.stands

  well : Well t
  well = all_here Well before t after (subst (AllByRecursion Well) stand o.stands.formed)

  within : place < length ts
  within =
      let e = ap length stand in
      let s = length-append before (t ∷ after) in
      omega (arith, a.here)

  module _ (reach : ℕ) where
    abbrev sizes : ℕ → ℕ → ℕ
    sizes = sizes_of ns t

    one : take 1 (drop place ts) ≡ t ∷ []
    one = ap (λ (xs : List Subtable). take 1 (drop place xs)) stand ∙ (ap (λ (i : ℕ). take 1 (drop i (before ++ t ∷ after))) (sym a.here) ∙ picked ns reach t after before)

    -- what is too large then
    abbrev large : Option Refusal
    large = too_large ns reach place (take 1 (drop place ts))

    alone : large ≡ too_large ns reach place (t ∷ [])
    alone = ap (too_large ns reach place) one

    large_one : (c : ℕ) → cuts_of ns reach t ≡ Err c → large ≡ Some (ClassTooLarge place c)
    large_one c e = alone ∙ ap (λ (x : Result (List ℕ) ℕ). elim x as (λ _. Option Refusal) [ Err d ↦ Some (ClassTooLarge place d) | Ok ps ↦ None ]) e

    large_none : (ps : List ℕ) → cuts_of ns reach t ≡ Ok ps → large ≡ None
    large_none ps e = alone ∙ ap (λ (x : Result (List ℕ) ℕ). elim x as (λ _. Option Refusal) [ Err d ↦ Some (ClassTooLarge place d) | Ok ps ↦ None ]) e

    -- where nothing is too large, there are places
    places_there : large ≡ None → (ps : List ℕ) × (cuts_of ns reach t ≡ Ok ps)
    places_there e = by (cuts_of ns reach t) refl
      where
        by : (x : Result (List ℕ) ℕ) → cuts_of ns reach t ≡ x → (ps : List ℕ) × (cuts_of ns reach t ≡ Ok ps)
        by (Ok ps) is = (ps, is)
        by (Err c) is = let s = large_one c is in absurd (cc)

    module _ (w : Meaning) where
      abbrev full : Option Refusal
      full = no_room m.graph (cut_need w m.graph v (split_plan m.graph v place reach))

      -- with a valid place and reach the causes are these two
      module _ (low : 1 ≤ reach) (high : reach ≤ 65535) where
        causes : split_refusal w m place reach ≡ or_else large full
        causes =
            split_causes m v o w place reach
            ∙ (ap (λ (b : Bool). or_else (cond b None (Some (NoSubtable (length ts)))) (or_else (bad_reach reach) (or_else large full))) (lt-ltb place (length ts) within)
            ∙ ap₂ (λ (b c : Bool). or_else (cond (b && c) None (Some (BadReach reach))) (or_else large full)) (le-leb 1 reach low) (le-leb reach 65535 high))

        answers : (r : Result ℕ Refusal) (m' : Model) → Splits w m place reach r m' → (e : Refusal) → split_refusal w m place reach ≡ Some e → r ≡ Err e
        answers (Ok n) m' s e is = let none = s.0 in absurd (cc)
        answers (Err d) m' s e is = let some = s.0 in let same : d ≡ e = cc in ap Err same

        answered : (r : Result ℕ Refusal) (m' : Model) → Splits w m place reach r m' → (e : Refusal) → r ≡ Err e → split_refusal w m place reach ≡ Some e
        answered (Ok n) m' s e is = absurd (cc)
        answered (Err d) m' s e is = let same : d ≡ e = cc in s.0 ∙ ap Some same

        refuses : (r : Result ℕ Refusal) (m' : Model) → Splits w m place reach r m' → Refuses m place t reach r
        refuses r m' s = by (cuts_of ns reach t) refl
          where
            by : (x : Result (List ℕ) ℕ) → cuts_of ns reach t ≡ x → Refuses m place t reach r
            by (Err c) is =
                let low = (agreement ns o.stands.sound reach t well).refused c is in
                let none : NoneFits sizes reach k = (theory sizes (monotone ns o.stands.sound (cover_length ns t) t.contents)).refused reach k c low.within low.exceeds in
                (λ p. none, λ h. (c, answers r m' s (ClassTooLarge place c) (causes ∙ ap (λ (x : Option Refusal). or_else x full) (large_one c is))))
            by (Ok ps) is =
                let g = (agreement ns o.stands.sound reach t well).done ps is in
                let rest : split_refusal w m place reach ≡ full = causes ∙ ap (λ (x : Option Refusal). or_else x full) (large_none ps is) in (
                  λ p. absurd (room_not_class m.graph (cut_need w m.graph v (split_plan m.graph v place reach)) place p.0 (sym rest ∙ answered r m' s (ClassTooLarge place p.0) p.1)),
                  λ h. absurd (h ps g.cuts g.fits),
                )

      -- a done call
      module _ (lawful : Lawful w) (n : ℕ) (m' : Model) (s : Splits w m place reach (Ok n) m') where
        abbrev plan : Plan
        plan = split_plan m.graph v place reach

        becomes : CutSo m v o w plan
        becomes = split_so m v o w lawful place reach s.0

        found : (ps : List ℕ) × (cuts_of ns reach t ≡ Ok ps)
        found =
            let p = or_none (bad_place place (length ts)) (or_else (bad_reach reach) (or_else large full)) (sym (split_causes m v o w place reach) ∙ s.0) in
            let q = or_none (bad_reach reach) (or_else large full) p.1 in
            places_there (or_none large full q.1).0

        abbrev ps : List ℕ
        ps = found.0

        greedy : Greedy sizes reach 0 k ps
        greedy = (agreement ns o.stands.sound reach t well).done ps found.1

        planned : plan ≡ uncut before ++ (t, ps) ∷ uncut after
        planned =
            ap (λ (xs : List Subtable). cut_one ns reach place xs) stand
            ∙ (ap (λ (i : ℕ). cut_one ns reach i (before ++ t ∷ after)) (sym a.here)
            ∙ (one_plan ns reach t after before ∙ ap (λ (x : Result (List ℕ) ℕ). uncut before ++ (t, places_in x) ∷ uncut after) found.1))

        model : (n ≡ new_count plan) × (m' ≡ with_objects m (on.cut_by w m.graph v plan))
        model = cut_model m v o w m' (λ u. split_plan m.graph u place reach) n s.1

        count : n ≡ length ps
        count = model.0 ∙ (ap (λ (p : Plan). new_count p) planned ∙ one_count t ps after before)

        abbrev parts : List Subtable
        parts = pieces_of kind (length ns) t ps

        left : subtables_left kind (length ns) plan ≡ before ++ (parts ++ after)
        left = ap (subtables_left kind (length ns)) planned ∙ one_left t ps after kind (length ns) before

        abbrev nodes' : List Node
        nodes' = left_by w ns v (fields_at ns v) plan

        left_open : subtables_of m' ≡ before ++ (parts ++ after)
        left_open =
            ap subtables_of model.1
            ∙ (ap (λ (x : Option ℕ). elim x as (λ _. List Subtable) [ None ↦ [] | Some u ↦ subtables_at nodes' u ]) o.is
            ∙ (subtables_read nodes' v (fields_left ns (fields_at ns v) plan) (subtables_left kind (length ns) plan) becomes.stands ∙ left))

        fit : AllByRecursion (λ (p : Subtable). whole_size m'.graph.nodes p ≤ reach) parts
        fit =
            let all = subst (AllByRecursion (λ (u : Subtable). whole_size nodes' u ≡ whole_size ns u)) left becomes.sizes in
            let same = all_left (λ (u : Subtable). whole_size nodes' u ≡ whole_size ns u) parts after (all_right (λ (u : Subtable). whole_size nodes' u ≡ whole_size ns u) before (parts ++ after) all) in
            subst (λ (x : Model). AllByRecursion (λ (p : Subtable). whole_size x.graph.nodes p ≤ reach) parts) (sym model.1)
            (fit_then (whole_size ns) (whole_size nodes') reach parts same (parts_fit ns o.stands.sound reach t kind (length ns) ps well greedy.fits))

        fewest : Fewest m m' before t after reach n
        fewest =
            record {
              places = ps;
              parts = parts;
              cuts = greedy.cuts;
              runs = parts_hold kind (length ns) t ps well;
              left = left_open;
              count = let c = parts_count kind (length ns) t ps in omega (arith, count);
              fit = fit;
              fewest = λ qs cuts fits.
                  let f = (theory sizes (monotone ns o.stands.sound (cover_length ns t) t.contents)).fewest reach k ps qs greedy cuts fits in
                  omega (arith, count);
            }

-- every history from an open lookup that stands
pub keeps : (m : Model) (v : ℕ) → Open m v → Keeps m
keeps m v o =
    record {
      pairs = λ ls m' h. (came m v o h).pairs;
      refused = λ ls m' h w lawful place reach before t after a low high. refuses m' v (came m v o h).still place before t after a reach w low high;
      fewest = λ ls m' h w lawful place reach n before t after a m'' s. fewest m' v (came m v o h).still place before t after a reach w lawful n m'' s;
    }
