-- What is asked is done, made durable where it has to be, and replied to.
use Rattle.std.proofs.Common.{◌≡◌, ℕ, ◌<◌, List, ◌++◌, Option, Ok, Err, true, false, refl, sym, ap, ◌∙◌}
use Rattle.std.specs.Prelude.{Bool, IsTrue, OnOk, Result}
use Rattle.std.specs.Io.KnownBytes.{Appends}
use Rattle.disk_files.specs.Output.{AppendsFront}
use Rattle.nbd_wire.specs.Transmission.{simple_reply_bytes}
use Rattle.nbd_wire.specs.declared.request.Request.{Request}
use Rattle.nbd_session.specs.declared.asked.Asked.{Asked}
use Rattle.nbd_session.specs.declared.asked.Asked.TheVariants.{Read, Write, Trim, WriteZeroes, Flush}
use Rattle.nbd_session.specs.declared.fault.StoreFault.{StoreFault}
use Rattle.nbd_session.specs.Requests.{AnswersAnyway, DoesWith, Forces, ForcesAnyway, MayShow, RepliesAnyway, code_of, data_length, is_forced}
use Rattle.nbd_session.specs.Store.{Stays, StoreView}
use Rattle.nbd_session.specs.Streams.{streams}
use Rattle.nbd_session.specs.Turns.{Replies, RepliesInPart}
use Rattle.nbd_session.proofs.AnywayLaws.{more-after, stays-same, stays_join, was_clean}

-- ---- what had to be durable

forces-stays : (forced : Bool) (wanted : Asked) (count : ℕ) (old : StoreView) (done result : Result (Unit {0}) StoreFault) (new : StoreView) → ForcesAnyway forced wanted count old done result new → Stays old new
forces-stays forced wanted count old (Err fault) result new f = stays-same old new f.1
forces-stays true wanted count old (Ok done) result new f = f.stays.stays
forces-stays false wanted count old (Ok done) result new f = stays-same old new f.1

forces-clean : (forced : Bool) (wanted : Asked) (count : ℕ) (old : StoreView) (done result : Result (Unit {0}) StoreFault) (new : StoreView) → ForcesAnyway forced wanted count old done result new → IsTrue new.disk.drive.clean → Forces forced wanted count old done result new
forces-clean forced wanted count old (Err fault) result new f clean = f
forces-clean true wanted count old (Ok done) result new f clean = f.secures clean
forces-clean false wanted count old (Ok done) result new f clean = f

forces-synced : (forced : Bool) (wanted : Asked) (count before : ℕ) (old : StoreView) (done result : Result (Unit {0}) StoreFault) (new : StoreView) → old.syncs ≡ before → ForcesAnyway forced wanted count old done result new
    → forced ≡ true → OnOk result (before < new.syncs)
forces-synced forced wanted count before old (Err fault) result new same f is = rw f.0 tt
forces-synced true wanted count before old (Ok done) result new same f is = more-after before old.syncs new.syncs result same f.stays.more
forces-synced false wanted count before old (Ok done) result new same f is = absurd (cc is)

forces-unsynced : (forced : Bool) (wanted : Asked) (count before : ℕ) (old : StoreView) (done result : Result (Unit {0}) StoreFault) (new : StoreView) → old.syncs ≡ before → ForcesAnyway forced wanted count old done result new
    → forced ≡ false → new.syncs ≡ before
forces-unsynced forced wanted count before old (Err fault) result new same f is = ap (λ (s : StoreView). s.syncs) f.1 ∙ same
forces-unsynced true wanted count before old (Ok done) result new same f is = absurd (cc is)
forces-unsynced false wanted count before old (Ok done) result new same f is = ap (λ (s : StoreView). s.syncs) f.1 ∙ same

-- only a READ shows bytes, and it is not made durable
forces-shows : (block : ℕ) (forced : Bool) (wanted : Asked) (request : Request) (count : ℕ) (shown : List ℕ) (old : StoreView) (done result : Result (Unit {0}) StoreFault) (new : StoreView) → is_forced wanted request ≡ forced → ForcesAnyway forced wanted count old done result new
    → MayShow block wanted done shown → MayShow block wanted result shown
forces-shows block forced wanted request count shown old (Err fault) result new is f shows = rw f.0 shows
forces-shows block false wanted request count shown old (Ok done) result new is f shows = rw f.0 shows
forces-shows block true (Read first n) request count shown old (Ok done) result new is f shows = absurd (cc is)
forces-shows block true (Write first) request count shown old (Ok done) result new is f shows = shows
forces-shows block true (Trim first n) request count shown old (Ok done) result new is f shows = shows
forces-shows block true (WriteZeroes first n hole) request count shown old (Ok done) result new is f shows = shows
forces-shows block true Flush request count shown old (Ok done) result new is f shows = shows

-- ---- the reply

replied : (left left' : Option (List ℕ)) (old middle new : StoreView) (request : Request) (wanted : Asked) (forced : Bool) (count : ℕ) (shown : List ℕ) (done result : Result (Unit {0}) StoreFault) → (d : DoesWith left left' old wanted count shown done middle) → is_forced wanted request ≡ forced → count ≡ data_length request
    → ForcesAnyway forced wanted count middle done result new → RepliesAnyway old request wanted d.bytes (simple_reply_bytes (code_of wanted result) request.cookie ++ shown) new
replied left left' old middle new request wanted forced count shown done result d is counts f =
    let stays = forces-stays forced wanted count middle done result new f in
    record {
      does = λ clean.
          (let does = d.does (was_clean middle new stays clean) in
          record {
            done = done;
            shown = does.blocks;
            middle = middle;
            does = does.does;
            result = result;
            forces = rw (is, ← counts) (forces-clean forced wanted count middle done result new f clean);
            reply_is = ap (λ (bytes : List ℕ). simple_reply_bytes (code_of wanted result) request.cookie ++ bytes) does.shown_is;
          });
      result = result;
      shown = shown;
      reply_is = refl;
      shows = forces-shows old.disk.drive.geometry.block forced wanted request count shown middle done result new is f d.shows;
      synced = λ must. forces-synced forced wanted count old.syncs middle done result new d.stays.syncs f (sym is ∙ must);
      unsynced = λ free. forces-unsynced forced wanted count old.syncs middle done result new d.stays.syncs f (sym is ∙ free);
      stays = stays_join old middle new d.stays.stays stays;
    }

-- what is asked is answered: its data are read, and the reply is written
pub asked_replied : (left left' written contents : Option (List ℕ)) (old middle new : StoreView) (request : Request) (wanted : Asked) (forced : Bool) (count : ℕ) (shown head : List ℕ) (done result : Result (Unit {0}) StoreFault) → DoesWith left left' old wanted count shown done middle
    → forced ≡ is_forced wanted request → count ≡ data_length request → ForcesAnyway forced wanted count middle done result new → head ≡ simple_reply_bytes (code_of wanted result) request.cookie → Appends written contents (head ++ shown)
    → Replies (streams left left' written contents) (data_length request) (λ bytes reply. AnswersAnyway old request (Ok wanted) bytes reply new)
asked_replied left left' written contents old middle new request wanted forced count shown head done result d is counts f head_is sent = record {
  after = d.bytes;
  count_is = d.count_is ∙ counts;
  reply = simple_reply_bytes (code_of wanted result) request.cookie ++ shown;
  read = d.read;
  written = rw head_is at sent;
  answer = replied left left' old middle new request wanted forced count shown done result d (sym is) counts f;
}

-- or only a beginning of it
pub asked_in_part : (left left' written contents : Option (List ℕ)) (old middle new : StoreView) (request : Request) (wanted : Asked) (forced : Bool) (count : ℕ) (shown head : List ℕ) (done result : Result (Unit {0}) StoreFault) → DoesWith left left' old wanted count shown done middle
    → forced ≡ is_forced wanted request → count ≡ data_length request → ForcesAnyway forced wanted count middle done result new → head ≡ simple_reply_bytes (code_of wanted result) request.cookie → AppendsFront written contents (head ++ shown)
    → RepliesInPart (streams left left' written contents) (data_length request) (λ bytes reply. AnswersAnyway old request (Ok wanted) bytes reply new)
asked_in_part left left' written contents old middle new request wanted forced count shown head done result d is counts f head_is sent = record {
  after = d.bytes;
  count_is = d.count_is ∙ counts;
  reply = simple_reply_bytes (code_of wanted result) request.cookie ++ shown;
  read = d.read;
  written = rw head_is at sent;
  answer = replied left left' old middle new request wanted forced count shown done result d (sym is) counts f;
}
