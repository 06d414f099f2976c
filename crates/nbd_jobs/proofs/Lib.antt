mod ForgetLaws
mod SessionLaws
mod FailLaws
pub mod LossLaws
