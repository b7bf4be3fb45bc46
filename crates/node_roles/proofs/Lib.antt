pub mod Agents
pub mod Replicas
