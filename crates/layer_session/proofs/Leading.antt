-- Parts of preparing, one behind another.
use Rattle.std.proofs.Common.{◌≡◌, ℕ, ◌/◌, ◌<◌, Bool, List, length, Option, Some, None, refl, sym, ap, subst, ◌∙◌, arith}
use Rattle.std.specs.Prelude.{Result, Ok, Err, OnOk, IfErr}
use Rattle.std.specs.Vec.{with_items}
use Rattle.std.proofs.lemmas.List.{with_items_is}
use Rattle.store_model.proofs.Told.{counts_join}
use Rattle.layer_session.specs.declared.planning.Plan.{Plan}
use Rattle.vhdx_format.specs.Fields.{megabyte}
use Rattle.vhdx_format.specs.Layers.{Shape}
use Rattle.block_alloc.specs.Spaces.{Space, fits_in}
use Rattle.layer_session.specs.Planning.{IsLooked, has_room, wanted_bitmaps}
use Rattle.layer_session.specs.declared.planning.Wanted.{Wanted}
use Rattle.vx_base.specs.declared.parts.Parts.{Parts}
use Rattle.store_model.specs.Cause.{RoseAt}
use Rattle.store_model.specs.Disk.{Disk, ReadFailed, WhereBothTold, WhereTold}
use Rattle.store_model.specs.File.{seen}
use Rattle.store_model.specs.Plans.{FailsToChange}
use Rattle.store_model.specs.Trace.{Trace, file_of}
use Rattle.store_model.specs.declared.fault.StoreFault.{StoreFault}
use Rattle.store_model.proofs.Spans.{EachMoment-now}
use Rattle.chain_model.specs.Images.{Placed}
use Rattle.chain_model.specs.Layers as chain
use Rattle.chain_model.specs.Moments.{HasWholeImages}
use Rattle.chain_model.specs.Sessions.{ShowsFile}
use Rattle.layer_session.specs.declared.file.Layer.{Layer}
use Rattle.layer_session.specs.declared.file.LayerFault.{LayerFault}
use Rattle.layer_session.specs.declared.file.LayerFault.TheVariants.{Read, Write, FileFull}
use Rattle.table_pages.specs.declared.tables.TableParts.{TableParts}
use Rattle.layer_session.specs.Bringing.{Leads, LeadsTo}
use Rattle.layer_session.specs.Calls.{Fails, HasCommitted, HasKept, HoldsRest, IsSame, KeepsOver, OnBroken, OnRefused, settled}
use Rattle.layer_session.specs.Keeping.{IsHeld, IsReadable, IsReady, Serves}
use Rattle.layer_session.proofs.Crashes.{layers_are_kept}
use Rattle.layer_session.proofs.Ending.{phases_join}
use Rattle.layer_session.proofs.Standing.{looser}

-- ---- nothing is changed

pub keeps_now : (l : Layer) (o : Option Trace) → WhereBothTold (KeepsOver l) o o
keeps_now l None = tt
keeps_now l (Some t) = record {
  over = λ file serves.
      EachMoment-now (HasWholeImages file.number (ShowsFile file) t) t (record { images = λ image here clean. (layers_are_kept l t file serves).shows image here clean; others = λ o ne. refl });
}

kept_now : (l n : Layer) (disk : Disk) (o : Option Trace) → disk.told ≡ o → IsSame l n disk → WhereBothTold (HasKept l n) o o
kept_now l n disk None e same = tt
kept_now l n disk (Some t) e same = record { serves = λ file s. same.serves t file e s }

pub leads_same : (l n : Layer) (disk : Disk) → IsReady l disk → IsSame l n disk → n.leave ≡ l.leave → LeadsTo l n disk disk
leads_same l n disk ready same leave =
    record { moments = keeps_now l disk.told; kept = kept_now l n disk disk.told refl same; ready = same.ready ready; parts = same.parts; leave = leave; counts = refl }

-- ---- one part behind another

keeps_then : (a b : Layer) (x y z : Option Trace) → WhereBothTold (KeepsOver a) x y → WhereBothTold (HasKept a b) x y → WhereBothTold (KeepsOver b) y z → WhereBothTold (KeepsOver a) x z
keeps_then a b None None None h k m = tt
keeps_then a b None None (Some w) h k m = absurd m
keeps_then a b None (Some v) z h k m = absurd h
keeps_then a b (Some u) None z h k m = absurd h
keeps_then a b (Some u) (Some v) None h k m = absurd m
keeps_then a b (Some u) (Some v) (Some w) h k m = record { over = λ file s. phases_join file.number (ShowsFile file) u v w (h.over file s) (m.over file (k.serves file s)) }

pub kept_then : (a b c : Layer) (x y z : Option Trace) → WhereBothTold (HasKept a b) x y → WhereBothTold (HasKept b c) y z → WhereBothTold (HasKept a c) x z
kept_then a b c None None None h k = tt
kept_then a b c None None (Some w) h k = absurd k
kept_then a b c None (Some v) z h k = absurd h
kept_then a b c (Some u) None z h k = absurd h
kept_then a b c (Some u) (Some v) None h k = absurd k
kept_then a b c (Some u) (Some v) (Some w) h k = record { serves = λ file s. k.serves file (h.serves file s) }

rest_then : (a b c : Layer) (x y z : Option Trace) → WhereBothTold (HasKept a b) x y → WhereBothTold (HoldsRest b c 0 0) y z → WhereBothTold (HoldsRest a c 0 0) x z
rest_then a b c None None None h k = tt
rest_then a b c None None (Some w) h k = absurd k
rest_then a b c None (Some v) z h k = absurd h
rest_then a b c (Some u) None z h k = absurd h
rest_then a b c (Some u) (Some v) None h k = absurd k
rest_then a b c (Some u) (Some v) (Some w) h k = record { holds = λ file s. k.holds file (h.serves file s) }

pub leads_then : (a b c : Layer) (x y z : Disk) → LeadsTo a b x y → LeadsTo b c y z → LeadsTo a c x z
leads_then a b c x y z h k = record {
  moments = keeps_then a b x.told y.told z.told h.moments h.kept k.moments;
  kept = kept_then a b c x.told y.told z.told h.kept k.kept;
  ready = k.ready;
  parts = k.parts ∙ h.parts;
  leave = k.leave ∙ h.leave;
  counts = counts_join x y z h.counts k.counts;
}

pub leads_on : {T : Type 0} (a b c : Layer) (x y z : Disk) (result : Result T LayerFault) → LeadsTo a b x y → Leads b c y z result → Leads a c x z result
leads_on a b c x y z (Ok v) h k = leads_then a b c x y z h k
leads_on a b c x y z (Err (FileFull next)) h k = leads_then a b c x y z h k
leads_on a b c x y z (Err (Read fault)) h k =
    let same : record y { told = z.told } ≡ record x { told = z.told } = ap (λ (d : Disk). let e : Disk = record d { told = z.told } in e) h.counts in
    let file : b.tables.parts.file ≡ a.tables.parts.file = ap (λ (p : TableParts). p.file) h.parts in (
      subst (LeadsTo a c x) same (leads_then a b c x y (record y { told = z.told }) h k.0),
      subst (λ n. ReadFailed n (record x { told = z.told }) z fault) file (subst (λ (d : Disk). ReadFailed b.tables.parts.file d z fault) same k.1),
    )
leads_on a b c x y z (Err (Write fault)) h (k, f) = (
  record {
    moments = keeps_then a b x.told y.told z.told h.moments h.kept k.moments;
    readable = k.readable;
    holds = rest_then a b c x.told y.told z.told h.kept k.holds;
    parts = k.parts ∙ h.parts;
    leave = k.leave ∙ h.leave;
  },
  subst (λ n. FailsToChange n x z fault) (ap (λ (p : TableParts). p.file) h.parts)
      (record {
        stays = f.stays ∙ ap (λ (d : Disk). let e : Disk = record d { told = z.told; failed_changes = z.failed_changes } in e) h.counts;
        of_file = f.of_file;
        count = subst (λ n. RoseAt b.tables.parts.file fault.count n z.failed_changes) (ap (λ (d : Disk). d.failed_changes) h.counts) f.count;
      }),
)

-- a read that failed
pub leads_read : (T : Type 0) (l n : Layer) (disk after : Disk) (fault : StoreFault) → LeadsTo l n disk disk → ReadFailed l.tables.parts.file disk after fault → Leads {T = T} l n disk after (Err (Read fault))
leads_read T l n disk after fault h f =
    let told : after.told ≡ disk.told = ap (λ (d : Disk). d.told) f.stays in
    let same : disk ≡ record disk { told = after.told } = ap (λ o. let e : Disk = record disk { told = o } in e) (sym told) in
    (subst (LeadsTo l n disk) same h, subst (λ (d : Disk). ReadFailed l.tables.parts.file d after fault) same f)

-- ---- what a part tells, clause by clause

still_ready : (l : Layer) (disk after : Disk) → after.files ≡ disk.files → after.told ≡ disk.told → IsReady l disk → IsReady l after
still_ready l disk after files told r = record {
  readable = record {
    there = subst (λ n. l.tables.parts.file < n) (sym files) r.readable.there;
    sizes = r.readable.sizes;
    told = subst (λ o. WhereTold o (λ trace. (parts : Parts) × ((layer : chain.Layer) × IsHeld l parts layer (seen (file_of trace l.tables.parts.file))))) (sym told) r.readable.told;
  };
  one_file = r.one_file;
  next = r.next;
  most = r.most;
  clear = r.clear;
  plans = r.plans;
  told = subst (λ o. WhereTold o (λ trace. (file : Placed) × Serves l trace file)) (sym told) r.told;
}

module _ {T : Type 0} (a b : Layer) (x y : Disk) where
  pub tells_moments : (result : Result T LayerFault) → Leads a b x y result → WhereBothTold (KeepsOver a) x.told y.told
  tells_moments (Ok v) h = h.moments
  tells_moments (Err (FileFull next)) h = h.moments
  tells_moments (Err (Read fault)) h = h.0.moments
  tells_moments (Err (Write fault)) h = h.0.moments

  pub tells_ready : (result : Result T LayerFault) → Leads a b x y result → OnOk result (IsReady b y)
  tells_ready (Ok v) h = h.ready
  tells_ready (Err fault) h = tt

  pub tells_counts : (result : Result T LayerFault) → Leads a b x y result → OnOk result (y ≡ record x { told = y.told })
  tells_counts (Ok v) h = h.counts
  tells_counts (Err fault) h = tt

  pub tells_refused : (result : Result T LayerFault) → Leads a b x y result → OnRefused result (IsReady b y × WhereBothTold (HasKept a b) x.told y.told)
  tells_refused (Ok v) h = tt
  tells_refused (Err (FileFull next)) h = (h.ready, h.kept)
  tells_refused (Err (Read fault)) h = (still_ready b (record x { told = y.told }) y (ap (λ (d : Disk). d.files) h.1.stays) refl h.0.ready, h.0.kept)
  tells_refused (Err (Write fault)) h = tt

  pub tells_broken : (result : Result T LayerFault) → Leads a b x y result → OnBroken result (IsReadable b y × WhereBothTold (HoldsRest a b 0 0) x.told y.told)
  tells_broken (Ok v) h = tt
  tells_broken (Err (FileFull next)) h = tt
  tells_broken (Err (Read fault)) h = tt
  tells_broken (Err (Write fault)) h = (h.0.readable, h.0.holds)

  pub tells_parts : (result : Result T LayerFault) → Leads a b x y result → b.tables.parts ≡ a.tables.parts
  tells_parts (Ok v) h = h.parts
  tells_parts (Err (FileFull next)) h = h.parts
  tells_parts (Err (Read fault)) h = h.0.parts
  tells_parts (Err (Write fault)) h = h.0.parts

  pub tells_leave : (result : Result T LayerFault) → Leads a b x y result → b.leave ≡ a.leave
  tells_leave (Ok v) h = h.leave
  tells_leave (Err (FileFull next)) h = h.leave
  tells_leave (Err (Read fault)) h = h.0.leave
  tells_leave (Err (Write fault)) h = h.0.leave

  pub tells_err : (result : Result T LayerFault) → Leads a b x y result → IfErr result (Fails a.tables.parts.file x y)
  tells_err (Ok v) h = tt
  tells_err (Err (FileFull next)) h = h.counts
  tells_err (Err (Read fault)) h = h.1
  tells_err (Err (Write fault)) h = h.1

-- an error is the same, whatever else would have been answered
pub leads_err : (T U : Type 0) (a b : Layer) (x y : Disk) (fault : LayerFault) → Leads {T = T} a b x y (Err fault) → Leads {T = U} a b x y (Err fault)
leads_err T U a b x y (FileFull next) h = h
leads_err T U a b x y (Read fault) h = h
leads_err T U a b x y (Write fault) h = h

-- ---- other plans

module _ (l n : Layer) where
  abbrev planned : Layer
  planned = record l { plans = n.plans }

  serves_planned : (t : Trace) (file : Placed) → Serves l t file → Serves planned t file
  serves_planned t file s = record {
    within = s.within;
    number = s.number;
    name = s.name;
    parts = s.parts;
    header = s.header;
    ties = s.ties;
    metadata = s.metadata;
    as_held = s.as_held;
    bytes = s.bytes;
    tables = s.tables;
    written = s.written;
    running = s.running;
    committed = s.committed;
    covered = s.covered;
    clean = s.clean;
    covered_held = s.covered_held;
    only = s.only;
    changed = s.changed;
    kept = s.kept;
    can = s.can;
    beside = s.beside;
    space = (let sp = s.space in record { next = sp.next; tight = sp.tight; placed = sp.placed; freed = sp.freed; committed = sp.committed });
  }

  same_planned : (disk : Disk) → IsReadable l disk → length n.plans.items ≡ 257 → IsSame l planned disk
  same_planned disk r long = record {
    parts = refl;
    number = refl;
    header = refl;
    readable = record { there = r.there; sizes = r.sizes; told = r.told };
    ready = λ w. record { readable = record { there = r.there; sizes = r.sizes; told = r.told }; one_file = w.one_file; next = w.next; most = w.most; clear = w.clear; plans = long; told = λ t told. let s = w.told t told in (s.0, serves_planned t s.0 s.1) };
    holds = λ t parts layer told h. h;
    serves = λ t file told s. serves_planned t file s;
  }

  pub plans_same : (disk : Disk) → n ≡ record l { plans = n.plans } → IsReadable l disk → length n.plans.items ≡ 257 → IsSame l n disk
  plans_same disk e r long = subst (λ (x : Layer). IsSame l x disk) (sym e) (same_planned disk r long)

-- as many plans as before
pub planned_long : (l : Layer) (plans : List Plan) → length plans ≡ l.plans.len → length l.plans.items ≡ 257 → length (with_items l.plans plans).items ≡ 257
planned_long l plans long h = ap length (with_items_is l.plans plans long) ∙ (let o = l.plans.ok.0 in omega (arith, long, o, h))

-- whether there is room is what the allocator says of what is wanted
pub room_is : (p : Shape) (file : List ℕ) (trims : Bool) (plans : List Plan) (first count units : ℕ) (all : Wanted) (space now : Space) (b : Bool) → IsLooked p file trims plans 0 first count all → units ≡ p.block / megabyte → now ≡ space
    → fits_in all.blocks units all.bitmaps now ≡ b → has_room p file trims first count space ≡ b
room_is p file trims plans first count units all space now b looked e same fits =
    ap (λ n. fits_in n (p.block / megabyte) (wanted_bitmaps p file trims first count) space) (sym looked.blocks)
    ∙ (ap (λ n. fits_in all.blocks (p.block / megabyte) n space) (sym looked.bitmaps) ∙ (ap (λ n. fits_in all.blocks n all.bitmaps space) (sym e) ∙ (ap (fits_in all.blocks units all.bitmaps) (sym same) ∙ fits)))

-- ---- a commit

pub leads_committed : (l n : Layer) (x y : Disk) → WhereBothTold (KeepsOver l) x.told y.told → WhereBothTold (HasCommitted l n) x.told y.told → IsReady n y → n.tables.parts ≡ l.tables.parts → n.leave ≡ l.leave → y ≡ record x { told = y.told }
    → LeadsTo l n x y
leads_committed l n x y moments has ready parts leave counts =
    record { moments = moments; kept = kept x.told y.told has; ready = ready; parts = parts; leave = leave; counts = counts }
  where
    kept : (a b : Option Trace) → WhereBothTold (HasCommitted l n) a b → WhereBothTold (HasKept l n) a b
    kept None None h = tt
    kept None (Some u) h = h
    kept (Some t) None h = h
    kept (Some t) (Some u) h = record { serves = λ file s. looser n u (settled file) file.is_loose (h.serves file s) (λ sector e. refl) }

-- what an answer of no fault tells together
pub prepared_by : {T A B C D E : Type 0} {l n : Layer} {x y : Disk} (result : Result T LayerFault) → Leads l n x y result → OnOk result A → OnOk result B → OnOk result C → OnOk result D
    → (LeadsTo l n x y → A → B → C → D → E) → OnOk result E
prepared_by (Ok v) leads a b c d f = f leads a b c d
prepared_by (Err fault) leads a b c d f = tt
