-- A lawful log, seen from one interval to the next.
use Rattle.std.proofs.Common.{◌≡◌, ◌<◌, ◌≤◌, sym, ◌∙◌, arith}
use Rattle.std.specs.List.{AllByRecursion}
use Rattle.std.proofs.lemmas.List.Elements.{All-from_recursion, recursion_from_All}
use Rattle.vm_model.specs.declared.ends.EndKind.TheVariants as ends
use Rattle.schedule_log.specs.Intervals.{clock_count}
use Rattle.schedule_log.specs.Ordered.{next_of, ContiguousFrom, NeighboursDiffer}
use Rattle.schedule_log.specs.Logs.{PlainLog, IsLawful}
use Rattle.schedule_log.proofs.Placed.{all_weaken, last_bound}
use Rattle.schedule_log.proofs.Tiling.{tiles_contiguous, contiguous_from_tiles, counted_all}

pub record IsChain (l : PlainLog) : Type 0 where
  pub budget_low : 1 ≤ l.budget
  pub budget_high : l.budget ≤ 1048576
  pub threads : AllByRecursion (λ i. i.thread < 64) l.intervals
  pub contiguous : ContiguousFrom 0 l.intervals
  pub neighbours : NeighboursDiffer l.intervals
  pub some_event : 1 ≤ next_of l.intervals
  pub within_budget : next_of l.intervals ≤ l.budget
  pub spent : l.end ≡ ends.Spent → next_of l.intervals ≡ l.budget

pub chain_of : (l : PlainLog) → IsLawful l → IsChain l
chain_of l law =
    let t = contiguous_from_tiles (clock_count l.intervals) l.intervals law.in_order law.tiles in
    record {
      budget_low = law.budget_low;
      budget_high = law.budget_high;
      threads = recursion_from_All (λ i. i.thread < 64) l.intervals law.threads;
      contiguous = t.0;
      neighbours = t.1;
      some_event = omega (arith, law.some_event, t.2);
      within_budget = omega (arith, law.within_budget, t.2);
      spent = λ e. t.2 ∙ law.spent e;
    }

pub lawful_of : (l : PlainLog) → IsChain l → IsLawful l
lawful_of l chain =
    let count : clock_count l.intervals ≡ next_of l.intervals = counted_all l.intervals chain.contiguous in
    let t = tiles_contiguous (clock_count l.intervals) l.intervals chain.contiguous chain.neighbours (sym count) in
    record {
      budget_low = chain.budget_low;
      budget_high = chain.budget_high;
      threads = All-from_recursion (λ i. i.thread < 64) l.intervals chain.threads;
      in_order = t.0;
      tiles = t.1;
      some_event = omega (arith, chain.some_event, count);
      within_budget = omega (arith, chain.within_budget, count);
      spent = λ e. count ∙ chain.spent e;
    }

-- each last is below the limit of a budget
pub lasts_of : (l : PlainLog) → IsChain l → AllByRecursion (λ i. i.last < 1048576) l.intervals
lasts_of l chain = all_weaken (λ i. i.last < next_of l.intervals) (λ i. i.last < 1048576) l.intervals (λ i h. omega (arith, h, chain.within_budget, chain.budget_high)) (last_bound 0 l.intervals chain.contiguous)
