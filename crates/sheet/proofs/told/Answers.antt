use Rattle.std.proofs.Common.{sym, refl, ◌∙◌}
use Rattle.sheet.proofs.Telling.{tell-step, ok-part}
use Rattle.sheet.proofs.told.Goals as goal

pub unwrap-requires : goal.unwrap-requires
unwrap-requires g c =
    let z = tell-step _ _ c.args.register _ c.requires.2.0 c.requires.0 (rw (c.requires.1.0, c.requires.1.1) at c.tell.ensures.promised) c.requires.2.1 in rw z.0 refl

pub returns-clause-told : goal.returns-clause-told
returns-clause-told g c = λ s st.
    let z = tell-step _ _ c.args.register _ s c.requires.0 (rw (c.requires.1.0, c.requires.1.1) at c.tell.ensures.promised) st in (ok-part _ _ (sym c.unwrap.ensures ∙ z.0), z.1)
