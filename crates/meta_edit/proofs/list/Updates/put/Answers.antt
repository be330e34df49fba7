use Rattle.std.proofs.Common.{◌≡◌, ◌<◌, ◌≤◌, Bool, true, false, cond, List, [], ◌∷◌, ◌++◌, length, sym, ap, ◌∙◌, subst, arith}
use Rattle.std.specs.Prelude.{Result, Ok, Err, OnOk, is_ok}
use Rattle.vhdx_format.specs.declared.log_entry.Page.{Page}
use Rattle.log_format.specs.PendingPages.{HasOnePageEach, with_page}
use Rattle.log_format.specs.PendingPages as spec
use Rattle.log_format.proofs.Putting.{apart_with}
use Rattle.meta_edit.proofs.PageLaws.{put_in_stead, put_behind}
use Rattle.meta_edit.proofs.list.Updates.put.Goals as goal

either : (b : Bool) (a d : List Page) → HasOnePageEach a → HasOnePageEach d → HasOnePageEach (cond b a d)
either true a d h g = h
either false a d h g = g

on_ok : {A E : Type 0} (r : Result A E) (new a d w : List Page) → new ≡ cond (is_ok r) a d → a ≡ w → OnOk r (new ≡ w)
on_ok (Ok x) new a d w e f = e ∙ f
on_ok (Err x) new a d w e f = tt

pub invariant_of-self : goal.invariant_of-self
invariant_of-self c =
    let items : List Page = c.self.inside.pages.items in
    let place : c.place_of-i.result ≡ spec.place_of c.args.page.at items = c.place_of-i.ensures ∙ ap (spec.place_of c.args.page.at) c.as_slice.ensures.value in
    let within : c.place_of-i.result < length items = omega (arith, c.if-i-len.true, c.len.ensures, c.as_slice.ensures.len, ap length c.as_slice.ensures.value) in
    subst HasOnePageEach (sym (put_in_stead items c.place_of-i.result c.args.page place within)) (apart_with items c.args.page c.self.invariant)

pub invariant_of-self-else-i-len : goal.invariant_of-self-else-i-len
invariant_of-self-else-i-len c =
    let items : List Page = c.self.inside.pages.items in
    let place : c.place_of-i.result ≡ spec.place_of c.args.page.at items = c.place_of-i.ensures ∙ ap (spec.place_of c.args.page.at) c.as_slice.ensures.value in
    let behind : length items ≤ c.place_of-i.result = omega (arith, c.if-i-len.false, c.len.ensures, c.as_slice.ensures.len, ap length c.as_slice.ensures.value) in
    subst HasOnePageEach (sym c.push.ensures.items)
    (either (is_ok c.push.result) (items ++ c.args.page ∷ []) items
    (subst HasOnePageEach (sym (put_behind items c.place_of-i.result c.args.page place behind)) (apart_with items c.args.page c.self.invariant))
    c.self.invariant)

pub returns-then-i-len : goal.returns-then-i-len
returns-then-i-len c =
    let items : List Page = c.self.inside.pages.items in
    let place : c.place_of-i.result ≡ spec.place_of c.args.page.at items = c.place_of-i.ensures ∙ ap (spec.place_of c.args.page.at) c.as_slice.ensures.value in
    let within : c.place_of-i.result < length items = omega (arith, c.if-i-len.true, c.len.ensures, c.as_slice.ensures.len, ap length c.as_slice.ensures.value) in
    put_in_stead items c.place_of-i.result c.args.page place within ∙ ap (λ (z : List Page). with_page z c.args.page) c.self.view_is

pub returns-else-i-len : goal.returns-else-i-len
returns-else-i-len c =
    let items : List Page = c.self.inside.pages.items in
    let place : c.place_of-i.result ≡ spec.place_of c.args.page.at items = c.place_of-i.ensures ∙ ap (spec.place_of c.args.page.at) c.as_slice.ensures.value in
    let behind : length items ≤ c.place_of-i.result = omega (arith, c.if-i-len.false, c.len.ensures, c.as_slice.ensures.len, ap length c.as_slice.ensures.value) in
    on_ok c.push.result c.push.new.self.items (items ++ c.args.page ∷ []) items (with_page c.args.self.now c.args.page) c.push.ensures.items
    (put_behind items c.place_of-i.result c.args.page place behind ∙ ap (λ (z : List Page). with_page z c.args.page) c.self.view_is)
