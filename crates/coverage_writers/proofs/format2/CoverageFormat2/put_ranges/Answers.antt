use Rattle.std.proofs.Common.{◌≡◌, ◌+◌, ◌*◌, ◌++◌, length, refl, ap, ◌∙◌, arith, rules}
use Rattle.std.proofs.lemmas.List.Sorted.{answers_always}
use Rattle.coverage_writers.specs.Formats.{bytes_of, range_words, runs, format2}
use Rattle.std.specs.Prelude.{slice_index}
use Rattle.coverage_writers.specs.WriterLaws.{length-format2}
use Rattle.coverage_writers.proofs.Chunks.{part_cut, part_room, part_written, parts_done}
use Rattle.coverage_writers.proofs.Runs.{along_past, header, listed_few}
use Rattle.coverage_writers.proofs.format2.CoverageFormat2.put_ranges.Goals as goal

pub put_range-requires : goal.put_range-requires
put_range-requires c =
    let s = c.in-Some.ensures.steps in
    let part = part_cut _ c.loop-k.k-iterator.iter c.next.new.self.iter c.in-Some.run' s.0 (answers_always _ _ _ (λ f a r f' e. search rules)) in
    let room = part_room _ _ _ _ _ _ c.loop-k.invariant.along _ _ part in
    omega (arith, length-format2 c.args.glyphs.now)

pub overflow_sub-index : goal.overflow_sub-index
overflow_sub-index c =
    let part = part_cut _ c.loop-k.k-iterator.iter c.next.new.self.iter c.in-Some.run' c.in-Some.ensures.steps.0 (answers_always _ _ _ (λ f a r f' e. search rules)) in
    omega arith

pub overflow_add-index : goal.overflow_add-index
overflow_add-index c =
    let part = part_cut _ c.loop-k.k-iterator.iter c.next.new.self.iter c.in-Some.run' c.in-Some.ensures.steps.0 (answers_always _ _ _ (λ f a r f' e. search rules)) in
    omega (arith, part.count, listed_few c.args.glyphs.now c.requires.listed)

pub overflow_add-index-in-loop-k : goal.overflow_add-index-in-loop-k
overflow_add-index-in-loop-k c =
    let part = part_cut _ c.loop-k.k-iterator.iter c.next.new.self.iter c.in-Some.run' c.in-Some.ensures.steps.0 (answers_always _ _ _ (λ f a r f' e. search rules)) in
    omega (arith, part.count, listed_few c.args.glyphs.now c.requires.listed)

pub loop-k-preserved : goal.loop-k-preserved
loop-k-preserved c =
    let s = c.in-Some.ensures.steps in
    let part = part_cut _ c.loop-k.k-iterator.iter c.next.new.self.iter c.in-Some.run' s.0 (answers_always _ _ _ (λ f a r f' e. search rules)) in
    record {
      can = search rules;
      finite = search rules;
      along = part_written _ _ _ _ _ _ c.loop-k.invariant.along _ _ part _ (4 + 6 * c.in-Some.k) _ _ _ _ (omega arith) (omega arith) refl (ap (slice_index c.in-Some.run'.now) (omega (arith, part_room _ _ _ _ _ _ c.loop-k.invariant.along _ _ part, length-format2 c.args.glyphs.now, part.count, listed_few c.args.glyphs.now c.requires.listed))) (omega arith) c.put_range.ensures;
      left = omega arith;
    }

pub returns : goal.returns
returns c =
    let xs = c.args.glyphs.now in
    let old = c.args.out.now in
    let mid = c.put_word-2.new.out in
    let n = 4 + 6 * c.args.count in
    let size : length (format2 xs) ≡ n = omega (arith, length-format2 xs) in
    let h = header xs old c.put_word.new.out mid c.args.count c.requires.count c.put_word.ensures c.put_word-2.ensures in
    let done = parts_done _ _ _ _ _ _ c.loop-k.invariant.along n c.in-None.ensures.steps.0.0 size in
    done ∙ ap (λ l. format2 xs ++ l) (along_past (format2 xs) old mid 4 (bytes_of (range_words 0 (runs xs))) n h (omega arith))
