-- Where no medium is to fail, a session is one of the disk as it is.
use Rattle.nbd_jobs.specs.Laws.{UnaskedIsForgotten, UnaskedIsServed}

pub unasked-served : UnaskedIsServed
unasked-served read_only job bytes syncs old ended new served plain = rw plain at served.serves

pub unasked-forgotten : UnaskedIsForgotten
unasked-forgotten forget read_only job bytes syncs old told new served plain = rw plain at served.forgets
