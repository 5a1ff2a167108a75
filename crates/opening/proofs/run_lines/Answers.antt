-- A line that is refused ends the run, and one that is granted goes before the lines left.
use Rattle.std.proofs.Common.{◌≡◌, ℕ, length, Err, Result, sym, ◌∙◌, rules}
use Rattle.answers.specs.declared.TextFault.{TextFault}
use Rattle.layout.specs.Machine.{Machine}
use Rattle.spaces.specs.Spaces.{code_of}
use Rattle.store.specs.View.{view}
use Rattle.lines.specs.Lines.{lines_of, unread}
use Rattle.opening.specs.Opening.{Runs}
use Rattle.opening.proofs.Steps.{runs-end, runs-stop, runs-again, view-settled}
use Rattle.opening.proofs.run_lines.Goals as goal

pub returns-in_err-count : goal.returns-in_err-count
returns-in_err-count g c =
    let whole : Machine → Result ℕ TextFault → Type 0 = Runs c.args.stacks.control c.args.stacks.bindings (view c.args.store.now (code_of c.args.space) (g.M.WordMemory.words c.args.memory.now)) 1 0 (lines_of c.args.text.now) in
    let p = c.in-Some.ensures.steps in
    let y : c.from_residual.result ≡ Err c.in_err-count.field-0.0 = search rules in
    record {
      runs = runs-stop c.args.stacks.control c.args.stacks.bindings whole (view c.loop-line.store (code_of c.args.space) (g.M.WordMemory.words c.loop-line.memory))
          c.loop-line.line-iterator.line c.loop-line.total (lines_of (unread c.loop-line.line-iterator)) c.loop-line.invariant.1
          (view c.run_line.new.store (code_of c.args.space) (g.M.WordMemory.words c.run_line.new.memory)) _ _ p.0 c.in-Some.line.line p.1
          c.run_line.result c.run_line.ensures.runs c.in_err-count.field-0.0 (sym c.at_line.ensures ∙ c.in_err-count.was) c.from_residual.result y;
      lender = c.run_line.ensures.lender ∙ c.loop-line.invariant.0;
    }

pub loop-line-preserved : goal.loop-line-preserved
loop-line-preserved g c =
    let whole : Machine → Result ℕ TextFault → Type 0 = Runs c.args.stacks.control c.args.stacks.bindings (view c.args.store.now (code_of c.args.space) (g.M.WordMemory.words c.args.memory.now)) 1 0 (lines_of c.args.text.now) in
    let p = c.in-Some.ensures.steps in (
      c.run_line.ensures.lender ∙ c.loop-line.invariant.0,
      runs-again c.args.stacks.control c.args.stacks.bindings whole (view c.loop-line.store (code_of c.args.space) (g.M.WordMemory.words c.loop-line.memory))
          c.loop-line.line-iterator.line c.loop-line.total (lines_of (unread c.loop-line.line-iterator)) c.loop-line.invariant.1
          (view c.run_line.new.store (code_of c.args.space) (g.M.WordMemory.words c.run_line.new.memory)) _ (lines_of (unread c.next.new.self)) p.0 c.in-Some.line.line p.1
          (view-settled c.run_line.new.store c.args.space (g.M.WordMemory.words c.run_line.new.memory)) c.run_line.result c.run_line.ensures.runs c.in_ok-count.count c.saturating_add-total.result c.next.new.self.line
          (sym c.at_line.ensures ∙ c.in_ok-count.was) c.saturating_add-total.ensures p.2,
    )

pub returns : goal.returns
returns g c =
    let whole : Machine → Result ℕ TextFault → Type 0 = Runs c.args.stacks.control c.args.stacks.bindings (view c.args.store.now (code_of c.args.space) (g.M.WordMemory.words c.args.memory.now)) 1 0 (lines_of c.args.text.now) in
    record {
      runs = runs-end c.args.stacks.control c.args.stacks.bindings whole (view c.loop-line.store (code_of c.args.space) (g.M.WordMemory.words c.loop-line.memory))
          c.loop-line.line-iterator.line c.loop-line.total (lines_of (unread c.loop-line.line-iterator)) c.loop-line.invariant.1 c.in-None.ensures.steps.0;
      lender = c.loop-line.invariant.0;
    }
