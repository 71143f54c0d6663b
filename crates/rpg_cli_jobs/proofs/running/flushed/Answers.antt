use Rattle.std.proofs.Common.{Ok, Err, refl}
use Rattle.std.proofs.KnownBytes.{Keeps-refl}
use Rattle.rpg_engine.proofs.Outputs.{each_file}
use Rattle.rpg_cli_jobs.proofs.running.flushed.Goals as goal

-- the printer's flush failed
pub returns-in-Err : goal.returns-in-Err
returns-in-Err g c = record {
  printer = Err c.in-Err.fault;
  file = Ok tt;
  answer = refl;
  counts = each_file _ c.in-Err.ensures.faults refl;
  kept = each_file _ c.in-Err.ensures.bytes (Keeps-refl _);
}

-- the disk's did
pub returns-in-Err-flush_device : goal.returns-in-Err-flush_device
returns-in-Err-flush_device g c = record {
  printer = Ok tt;
  file = Err c.in-Err-flush_device.fault;
  answer = refl;
  counts = each_file _ c.in_default.ensures.faults c.in-Err-flush_device.ensures.faults;
  kept = each_file _ c.in_default.ensures.bytes c.in-Err-flush_device.ensures.bytes;
}

-- neither did
pub returns : goal.returns
returns g c = record {
  printer = Ok tt;
  file = Ok tt;
  answer = refl;
  counts = each_file _ c.in_default.ensures.faults c.in_default-flush_device.ensures.faults;
  kept = each_file _ c.in_default.ensures.bytes c.in_default-flush_device.ensures.bytes;
}
