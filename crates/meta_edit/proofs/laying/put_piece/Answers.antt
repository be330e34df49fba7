use Rattle.std.proofs.Common.{◌≡◌, ◌≤◌, ◌<◌, ◌+◌, ◌-◌, ◌%◌, ℕ, List, length, ap, refl, subst, sym, ◌∙◌, arith}
use Rattle.std.specs.Prelude.{All}
use Rattle.vhdx_format.specs.declared.log_entry.Page.{Page}
use Rattle.meta_edit.specs.Pages.{IsPageIn, laid_file, with_pages}
use Rattle.meta_edit.proofs.PageLaws.{length-with_page, All-with_page, piece_put}
use Rattle.meta_edit.proofs.Puts.{lies_within}
use Rattle.meta_edit.proofs.laying.put_piece.Goals as goal

-- the page round a place
page_in : (m n at : ℕ) (page : Page) → m % 4096 ≡ 0 → n % 4096 ≡ 0 → m ≤ at → at < m + n → page.at ≡ at - at % 4096 → length page.bytes ≡ 4096 → IsPageIn m n page
page_in m n at page a b first last e l = record {
  aligned = omega (arith, e);
  whole = l;
  first = omega (arith, e);
  last = omega (arith, e);
}

pub returns-clause-written : goal.returns-clause-written
returns-clause-written g c = λ t is.
    let file : List ℕ = laid_file t c.args.laid.now.file c.args.laid.now.over.now in
    let m : ℕ = c.args.laid.now.parts.now.meta_at in
    let n : ℕ = c.args.laid.now.parts.now.meta_len in
    let page : Page = record { at = c.args.at - c.args.at % 4096; bytes = c.put_bytes.new.out } in
    let fits : m + n ≤ length file = lies_within c.args.laid.now (g.S.Store.disk c.args.store.now) t c.requires.laid is in
    ap (λ (z : List Page). with_pages z file) c.in_ok-put.ensures
    ∙ piece_put m n c.args.updates.now file c.read_page.new.out c.args.bytes.now c.args.at (c.args.at - c.args.at % 4096) (c.args.at % 4096) page
    c.requires.updates c.in_ok-read_page.ensures.apart fits
    (page_in m n c.args.at page c.requires.laid.parts.at c.requires.laid.parts.len c.requires.first c.requires.last refl (c.put_bytes.auto.out ∙ c.read_page.auto.out))
    refl (omega arith) c.requires.piece (c.in_ok-read_page.ensures.bytes t is) c.put_bytes.ensures

pub returns-clause-pages : goal.returns-clause-pages
returns-clause-pages g c =
    let m : ℕ = c.args.laid.now.parts.now.meta_at in
    let n : ℕ = c.args.laid.now.parts.now.meta_len in
    let page : Page = record { at = c.args.at - c.args.at % 4096; bytes = c.put_bytes.new.out } in
    subst (All (IsPageIn m n)) (sym c.in_ok-put.ensures)
    (All-with_page m n c.args.updates.now page c.requires.updates
    (page_in m n c.args.at page c.requires.laid.parts.at c.requires.laid.parts.len c.requires.first c.requires.last refl (c.put_bytes.auto.out ∙ c.read_page.auto.out)))

pub returns-clause-few : goal.returns-clause-few
returns-clause-few g c =
    let page : Page = record { at = c.args.at - c.args.at % 4096; bytes = c.put_bytes.new.out } in
    omega (arith, ap length c.in_ok-put.ensures, length-with_page c.args.updates.now page)
