-- The identifiers that the files of a store show, gathered file by file.
use Rattle.std.proofs.Common.{◌≡◌, ℕ, ◌+◌, ◌<◌, ◌≤◌, List, ◌++◌, length, get_or, drop, sym, ap, ◌∙◌}
use Rattle.std.specs.Prelude.{Result, Ok, Err, IfOk, OnOk}
use Rattle.std.specs.Result.{IsErr}
use Rattle.std.proofs.lemmas.List.{append-nil, append_assoc, at_drop_all, drop_more}
use Rattle.store_model.specs.File.{seen}
use Rattle.store_model.specs.Trace.{Trace, file_of}
use Rattle.link_rules.specs.declared.linked.LinkedFile.{LinkedFile}
use Rattle.shown_ids.specs.Shown.{shown}
use Rattle.merge_plan.specs.Attached.{shown_from}

-- those of one more file
pub one_more : (trace : Trace) (files : List LinkedFile) (number : ℕ) (file : LinkedFile) (known ids now all : List (List ℕ)) → number < length files → file ≡ get_or files number file → ids ≡ shown file.parts (seen (file_of trace number))
    → now ≡ known ++ ids → known ++ shown_from trace number (drop number files) ≡ all → now ++ shown_from trace (number + 1) (drop (number + 1) files) ≡ all
one_more trace files number file known ids now all below at ids_are now_is so_far =
    let rest = shown_from trace (number + 1) (drop (number + 1) files) in
    let next : shown_from trace number (drop number files) ≡ shown file.parts (seen (file_of trace number)) ++ rest =
    ap (shown_from trace number) (drop_more files number file below) ∙ ap (λ (f : LinkedFile). shown f.parts (seen (file_of trace number)) ++ rest) (sym at) in
    ap (λ (ids : List (List ℕ)). ids ++ rest) (now_is ∙ ap (λ (ids : List (List ℕ)). known ++ ids) ids_are)
    ∙ append_assoc known (shown file.parts (seen (file_of trace number))) rest ∙ ap (λ (ids : List (List ℕ)). known ++ ids) (sym next) ∙ so_far

-- those of all
pub no_more : (trace : Trace) (files : List LinkedFile) (number : ℕ) (known all : List (List ℕ)) → length files ≤ number → known ++ shown_from trace number (drop number files) ≡ all → known ≡ all
no_more trace files number known all done so_far = sym (append-nil known) ∙ ap (λ (ids : List (List ℕ)). known ++ ids) (sym (at_drop_all (shown_from trace number) files number done)) ∙ so_far

-- ---- a fault that is handed on

pub not_ok_so : {T E : Type 0} (r : Result T E) → IsErr r → (P : Type 0) → OnOk r P
not_ok_so (Ok x) is P = cc
not_ok_so (Err x) is P = tt

pub not_if_ok_so : {T E : Type 0} (r : Result T E) → IsErr r → (P : T → Type 0) → IfOk r P
not_if_ok_so (Ok x) is P = cc
not_if_ok_so (Err x) is P = tt
