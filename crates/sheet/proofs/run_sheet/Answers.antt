-- The text is refused, or every register is told.
use Rattle.std.proofs.Common.{◌≡◌, Ok, Err, sym, ap, ◌∙◌}
use Rattle.std.proofs.lemmas.Result.{err_from_is_err_and}
use Rattle.sheet.proofs.Run.{sheet-gives, sheet-still, unstacked-kept, same-fault, no-fault}
use Rattle.sheet.proofs.run_sheet.Goals as goal

pub tell_all-requires : goal.tell_all-requires
tell_all-requires g c =
    let st = c.in_ok-heap.ensures.made in
    let u = unstacked-kept g.M.WordMemory.lender _ _ c.in_ok-heap.ensures.lent c.requires.1 in
    let p = rw (u.0, u.1) at c.open_text.ensures.promised in
    (unstacked-kept g.M.WordMemory.lender _ _ c.open_text.ensures.lent u, sheet-still c.args.text.now _ _ c.open_text.result _ st.0 st.1 p c.in_ok-open_text.was)

pub returns-in_err-open_text : goal.returns-in_err-open_text
returns-in_err-open_text g c =
    let w = err_from_is_err_and c.from_residual-in_err-open_text.result c.from_residual-in_err-open_text.ensures.1 in
    let y : c.from_residual-in_err-open_text.result ≡ Err c.in_err-open_text.field-0.0 = (w.1 ∙ ap Err w.2) in
    let st = c.in_ok-heap.ensures.made in
    let u = unstacked-kept g.M.WordMemory.lender _ _ c.in_ok-heap.ensures.lent c.requires.1 in
    sheet-gives c.args.text.now _ _ c.open_text.result c.from_residual-in_err-open_text.result st.0 st.1 (rw (u.0, u.1) at c.open_text.ensures.promised)
    (λ f e. y ∙ same-fault _ _ (sym c.in_err-open_text.was ∙ e)) (λ k e. absurd (no-fault _ _ (sym c.in_err-open_text.was ∙ e)))

pub returns : goal.returns
returns g c =
    let st = c.in_ok-heap.ensures.made in
    let u = unstacked-kept g.M.WordMemory.lender _ _ c.in_ok-heap.ensures.lent c.requires.1 in
    sheet-gives c.args.text.now _ _ c.open_text.result (Ok c.tell_all.result) st.0 st.1 (rw (u.0, u.1) at c.open_text.ensures.promised)
    (λ f e. absurd (no-fault _ _ (sym e ∙ c.in_ok-open_text.was))) (λ k e s q. ap Ok (c.tell_all.ensures s q))
