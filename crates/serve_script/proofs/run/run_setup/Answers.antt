use Rattle.serve_script.proofs.run.run_setup.Goals as goal

pub returns-in-Workers : goal.returns-in-Workers
returns-in-Workers c = rw c.in-Workers.is (rw c.with_workers.ensures at c.after_setup_line.ensures)

pub returns-in-Quantum : goal.returns-in-Quantum
returns-in-Quantum c = rw c.in-Quantum.is (rw c.with_quantum.ensures at c.after_setup_line-in-Quantum.ensures)

pub returns-in-Band : goal.returns-in-Band
returns-in-Band c = rw c.in-Band.is c.run_band.ensures

pub returns-in-Frames : goal.returns-in-Frames
returns-in-Frames c = rw c.in-Frames.is (rw c.with_frames.ensures at c.after_setup_line-in-Frames.ensures)

pub returns-in-Stream : goal.returns-in-Stream
returns-in-Stream c = rw c.in-Stream.is c.run_stream.ensures

pub returns-in-Start : goal.returns-in-Start
returns-in-Start c = rw c.in-Start.is c.run_start.ensures
