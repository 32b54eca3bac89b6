-- A loop that cuts greedily.
use Rattle.std.proofs.Common.{◌≡◌, ℕ, ◌+◌, ◌<◌, ◌≤◌, List, [], ◌∷◌, ◌++◌, length, take, drop, set, replicate, sym, ap, ◌∙◌, append_assoc, append-nil, arith}
use native.Mathlib.Decide.{dec_lt}
use Rattle.std.proofs.lemmas.List.{take_more_set, take-replicate, take-append-drop, drop-set-lt, drop-drop}
use Rattle.cutting.specs.Cutting.{Greedy, EachFits}
use Rattle.cutting.specs.SplitPoints.{Classes, Clear, Cut}
use Rattle.cutting.proofs.Theory.{alone, in_front}

-- the same classes have the same sizes
pub size_same : {cs ds : Classes} → cs ≡ ds → (a b : ℕ) → cs.size a b ≡ ds.size a b
size_same e a b = ap (λ (cs : Classes). cs.size a b) e

-- the list new holds the n places of a greedy cutting before the run start .. end, whatever comes after it, and then what the list old holds
pub record Growing (cs : Classes) (r start end n : ℕ) (old new : List ℕ) : Type 0 where
  pub holds : start < end
  pub fits : cs.size start end ≤ r
  pub count : n ≤ start
  pub chain : (qs : List ℕ) → Greedy cs.size r start cs.count qs → Greedy cs.size r 0 cs.count (take n new ++ qs)
  pub each : EachFits cs.size r start
  pub rest : drop n new ≡ drop n old

module _ {cs : Classes} {r start end n : ℕ} {old new : List ℕ} (s : Growing cs r start end n old new) where
  -- the run takes the next class
  pub growing_on : cs.size start (end + 1) ≤ r → Growing cs r start (end + 1) n old new
  growing_on fit = record { holds = omega (arith, s.holds); fits = fit; count = s.count; chain = s.chain; each = s.each; rest = s.rest }

  -- each class up to the end of the run fits alone
  pub each_fits : EachFits cs.size r end
  each_fits c h =
      elim (dec_lt c start) [ yes b ↦ s.each c b | no b ↦ let m = cs.monotone start c (c + 1) end (omega arith) (omega arith) (omega arith) in omega (arith, s.fits) ]

  -- the next class begins a run
  pub growing_cut : r < cs.size start (end + 1) → cs.size end (end + 1) ≤ r → n < length new → Growing cs r end (end + 1) (n + 1) old (set new n end)
  growing_cut over fit room =
      record {
        holds = omega arith;
        fits = fit;
        count = omega (arith, s.count, s.holds);
        chain = λ qs g. rw (take_more_set new n end room) (rw append_assoc (s.chain (end ∷ qs) (in_front s.holds s.fits over g)));
        each = each_fits;
        rest = drop-set-lt (n + 1) new n end (omega arith) ∙ sym (drop-drop 1 n new) ∙ ap (drop 1) s.rest ∙ drop-drop 1 n old;
      }

  -- the run ends with the last class
  pub growing_all : end ≡ cs.count → n ≤ length new → Cut cs r n old new
  growing_all e room =
      record { within = room; greedy = rw append-nil at (s.chain [] (alone (omega (arith, s.holds)) (rw e at s.fits))); rest = s.rest }

  -- a list that was clear is as it was once the places in it are zero
  pub growing_cleared : Clear old → n ≤ length old → replicate n 0 ++ drop n new ≡ old
  growing_cleared clear le =
      ap (λ xs. replicate n 0 ++ xs) s.rest
      ∙ ap (λ xs. xs ++ drop n old) (sym (ap (take n) clear ∙ take-replicate n (length old) 0 le))
      ∙ take-append-drop n old
