use Rattle.device_jobs.proofs.serving.serve_hardened.Goals as goal

pub returns-clause-tells : goal.returns-clause-tells
returns-clause-tells g c clean = c.serve_device-ended.ensures.tells (c.harden_by-hardened.ensures.trusted clean)
