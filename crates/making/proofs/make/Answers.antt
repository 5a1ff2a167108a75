use Rattle.std.proofs.Common.{◌≡◌, ◌∙◌, ap, rules}
use Rattle.spaces.specs.Spaces.{code_of}
use Rattle.store.specs.View.{table_of}
use Rattle.store.proofs.Laid.{start-of}
use Rattle.layout.specs.Machine.{window}
use Rattle.making.specs.Make.{made, target}
use Rattle.making.proofs.Emplaced.{block-long}
use Rattle.making.proofs.Made.{emplaced-kept}
use Rattle.making.proofs.Room.{place-below}
use Rattle.making.proofs.make.Goals as goal

pub returns-in_err-offset : goal.returns-in_err-offset
unfolding made
returns-in_err-offset g c = let b = block-long c.args.object.now.head.now c.args.object.now.rest c.args.object.now.fill in search rules

pub returns-in_err-emplace : goal.returns-in_err-emplace
unfolding made
returns-in_err-emplace g c =
    let s = c.args.store.now in
    let j : c.window.result ≡ target (table_of s) c.args.object.now.kind (code_of c.args.object.now.space) = c.window.ensures ∙ ap (window c.args.object.now.kind) c.space_now-code.ensures in
    let a = start-of s c.window.result c.index-store-window.result (place-below s c.args.object.now.kind c.args.object.now.space c.window.result j) in
    let b = block-long c.args.object.now.head.now c.args.object.now.rest c.args.object.now.fill in
    let k = emplaced-kept _ _ _ _ _ c.in_err-emplace.ensures.emplaces in search rules

pub returns : goal.returns
unfolding made
returns g c =
    let s = c.args.store.now in
    let j : c.window.result ≡ target (table_of s) c.args.object.now.kind (code_of c.args.object.now.space) = c.window.ensures ∙ ap (window c.args.object.now.kind) c.space_now-code.ensures in
    let a = start-of s c.window.result c.index-store-window.result (place-below s c.args.object.now.kind c.args.object.now.space c.window.result j) in
    let b = block-long c.args.object.now.head.now c.args.object.now.rest c.args.object.now.fill in search rules
