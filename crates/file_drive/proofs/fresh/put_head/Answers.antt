use Rattle.std.proofs.Common.{◌≡◌, arith, drop, refl}
use Rattle.file_bytes.specs.Changes.{SameBeside}
use Rattle.file_drive.specs.Head.{shape_words}
use Rattle.file_drive.specs.Tables.{words_in}
use Rattle.file_drive.proofs.StoringLaws.{headed, headed-left, unnamed-beside}
use Rattle.file_drive.proofs.fresh.put_head.Goals as goal

pub returns-in_err-put_words-clause-left : goal.returns-in_err-put_words-clause-left
returns-in_err-put_words-clause-left g c unnamed bytes may named =
    absurd (unnamed-beside 8 _ (g.F.FileBytes.may_leave c.args.file.now) (g.F.FileBytes.may_leave c.put_words.new.file) c.put_words.ensures.leaves (omega arith) unnamed bytes may named)

pub returns-in_err-sync-clause-left : goal.returns-in_err-sync-clause-left
returns-in_err-sync-clause-left g c unnamed bytes may named =
    absurd (unnamed-beside 8 _ (g.F.FileBytes.may_leave c.args.file.now) (g.F.FileBytes.may_leave c.put_words.new.file) c.put_words.ensures.leaves (omega arith) unnamed bytes (c.sync.ensures.leaves bytes may) named)

pub returns-in_err-put_magic-clause-left : goal.returns-in_err-put_magic-clause-left
returns-in_err-put_magic-clause-left g c unnamed bytes may named =
    let geometry = c.args.geometry.now in
    let old = g.F.FileBytes.seen c.args.file.now in
    let put = g.F.FileBytes.seen c.put_words.new.file in
    let beside : SameBeside 8 56 old put = rw c.shape_words.ensures at c.put_words.ensures.beside in
    let words : words_in put 8 7 ≡ drop 1 (shape_words geometry) = rw c.shape_words.ensures at c.in_ok-put_words.ensures.ok in
    headed-left geometry old put (drop 1 (shape_words geometry)) (g.F.FileBytes.may_leave c.sync.new.self) (g.F.FileBytes.may_leave c.put_magic.new.file) refl beside words c.in_ok-sync.ensures.durable c.put_magic.ensures.leaves bytes may named

pub returns-clause-left : goal.returns-clause-left
returns-clause-left g c unnamed bytes may named =
    let geometry = c.args.geometry.now in
    let old = g.F.FileBytes.seen c.args.file.now in
    let put = g.F.FileBytes.seen c.put_words.new.file in
    let beside : SameBeside 8 56 old put = rw c.shape_words.ensures at c.put_words.ensures.beside in
    let words : words_in put 8 7 ≡ drop 1 (shape_words geometry) = rw c.shape_words.ensures at c.in_ok-put_words.ensures.ok in
    headed-left geometry old put (drop 1 (shape_words geometry)) (g.F.FileBytes.may_leave c.sync.new.self) (g.F.FileBytes.may_leave c.put_magic.new.file) refl beside words c.in_ok-sync.ensures.durable c.put_magic.ensures.leaves bytes may named

pub returns-clause-head : goal.returns-clause-head
returns-clause-head g c =
    let geometry = c.args.geometry.now in
    let old = g.F.FileBytes.seen c.args.file.now in
    let put = g.F.FileBytes.seen c.put_words.new.file in
    let new = g.F.FileBytes.seen c.put_magic.new.file in
    let beside : SameBeside 8 56 old put = rw c.shape_words.ensures at c.put_words.ensures.beside in
    let words : words_in put 8 7 ≡ drop 1 (shape_words geometry) = rw c.shape_words.ensures at c.in_ok-put_words.ensures.ok in
    let last : SameBeside 0 8 put new = rw c.sync.ensures.seen at c.put_magic.ensures.beside in
    headed geometry old put new (drop 1 (shape_words geometry)) refl beside words last c.in_ok-put_magic.ensures.ok
